-- Laws of the pair job of two mesh files.
pub mod Putting
pub mod Making
pub mod Refused
pub mod ReadBack
pub mod Printed
