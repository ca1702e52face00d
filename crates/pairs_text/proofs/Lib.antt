-- Laws that belong to no one function: the text in pieces; pieces taken while there is room; what
-- calls hand over; a job's pieces in its walks; how long they are; pieces put one after another.
pub mod Pieces
pub mod Taking
pub mod Steps
pub mod Rows
pub mod Started
pub mod Sizes
pub mod Fitting
pub mod Putting
