-- The bounds of a mesh.
pub mod Bounds
