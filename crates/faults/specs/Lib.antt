-- Numbers of faults.
pub mod Told
