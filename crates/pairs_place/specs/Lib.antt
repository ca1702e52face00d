-- A place by the pairs of two operands.
pub mod Place
