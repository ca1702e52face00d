-- Where walks lie, and that unrolled parts are walks.
pub mod Walks
pub mod Operands
