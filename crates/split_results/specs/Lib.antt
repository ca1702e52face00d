-- What holds of the pairs of the split parts of two accepted meshes.
pub mod Chain
