-- The sizes of work buffers that all pairs are made in.
pub mod Sizes
