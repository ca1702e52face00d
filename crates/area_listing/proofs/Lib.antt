-- Laws that belong to no one function.
pub mod Printed
pub mod MoreInput
