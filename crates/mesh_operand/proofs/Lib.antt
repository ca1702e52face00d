-- Why an accepted file is an operand without faults of its own.
pub mod Within
pub mod Operand
pub mod Taking
