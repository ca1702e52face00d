-- Calls that answer alike.
pub mod Alike
