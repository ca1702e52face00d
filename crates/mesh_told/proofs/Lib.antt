-- Laws: a line found by its number; what is told.
pub mod Finding
pub mod Telling
