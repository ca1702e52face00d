-- Laws of runs, of lines and of fields, in reading order.
pub mod Runs
pub mod Lines
pub mod Places
