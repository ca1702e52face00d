-- Laws that belong to no one function, in reading order: numbers and points; numbers in
-- range; corners copied.
pub mod Corners
pub mod Range
pub mod Copying
