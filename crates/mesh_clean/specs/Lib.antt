-- Points as numbers, and meshes that are accepted at once.
pub mod Packed
pub mod Clean
pub mod Counted
