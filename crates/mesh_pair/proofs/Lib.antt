-- Laws of two files.
pub mod Files
