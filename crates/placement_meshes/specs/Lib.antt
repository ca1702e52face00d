-- What `placement` tells of two meshes.
pub mod Rightly
