-- What C is told of walks.
pub mod Told
