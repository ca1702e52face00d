-- What the lines of a listing ask.
pub mod Lines
