-- Laws of a file's split parts, and of a file that is too long.
pub mod Files
pub mod More
