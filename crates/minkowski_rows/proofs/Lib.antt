-- What putting all pairs leans on.
pub mod Pairs
