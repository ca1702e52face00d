-- The pair job of two mesh files; what the steps of making it promise; what its operands can be
-- refused for; what is printed of it.
pub mod Job
pub mod Putting
pub mod Refused
pub mod Printed
