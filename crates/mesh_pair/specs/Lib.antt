-- Two mesh files one after the other.
pub mod Files
