-- Splitting by a number.
pub mod Numbered
