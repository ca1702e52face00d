-- What is told of a text; a line found by its number.
pub mod Told
pub mod Search
