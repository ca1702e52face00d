-- The tests of a place are what cover says of it; what the call tells of two meshes.
pub mod Tests
pub mod Theorem
