-- Laws of a file's stored parts.
pub mod Stored
pub mod Laws
