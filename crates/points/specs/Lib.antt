-- What the contracts cite: the points of a work buffer, and parts gathered in one.
pub mod Points
pub mod Gathered
