-- All pairs as C is told them.
pub mod Told
