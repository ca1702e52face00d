-- Laws that belong to no one function: a pair begun, by its faults.
pub mod Pairs
