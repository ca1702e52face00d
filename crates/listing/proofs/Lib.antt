-- Laws of the mesh file.
pub mod File
