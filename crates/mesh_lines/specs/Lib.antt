-- The lines of a mesh that is written by hand.
pub mod Lines
