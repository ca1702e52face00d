-- Laws that belong to no one function: the bounds of corners; an operand put; the fault by the
-- tests that code makes; that the bounds hold the corners; the job read back.
pub mod Extremes
pub mod Operands
pub mod Making
pub mod Bounds
pub mod ReadBack
