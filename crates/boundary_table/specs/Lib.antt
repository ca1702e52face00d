-- What C is told of part tables.
pub mod Told
