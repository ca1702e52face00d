-- Laws of the listing's lines.
pub mod Putting
pub mod Lines
