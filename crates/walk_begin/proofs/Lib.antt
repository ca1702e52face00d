-- Laws that belong to no one function: a walk begun, by its faults.
pub mod Begins
