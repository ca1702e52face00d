-- What the contracts cite: a list of corners as numbers and as points; corners copied.
pub mod Corners
pub mod Copying
