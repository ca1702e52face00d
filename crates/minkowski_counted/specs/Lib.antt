-- Corners counted.
pub mod Counts
