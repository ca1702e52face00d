-- What counting leans on.
pub mod Counts
