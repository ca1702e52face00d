pub mod Mesh
pub mod Rows
