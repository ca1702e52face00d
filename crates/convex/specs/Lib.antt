-- Joining (document 01, "Joining").
pub mod Joining
pub mod Zipper
