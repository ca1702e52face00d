-- A mesh file as an operand.
pub mod Operand
