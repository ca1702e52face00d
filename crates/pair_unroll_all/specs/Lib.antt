-- All parts of a table unrolled.
pub mod Parts
