-- The faults of two operands in turn.
pub mod Range
