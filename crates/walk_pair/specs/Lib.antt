-- The first fault of a pair begun.
pub mod Pairing
