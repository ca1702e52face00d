-- What later crates cite: exact values of f64.
pub mod Floats
