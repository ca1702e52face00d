-- Laws of doubled areas that belong to no one function.
pub mod Sums
