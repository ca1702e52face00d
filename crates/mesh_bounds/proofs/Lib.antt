-- Laws of a mesh's bounds.
pub mod Widening
pub mod Bounded
