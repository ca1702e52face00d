-- The lines of all pairs of two operands; when a line can be put.
pub mod Lines
pub mod Putting
