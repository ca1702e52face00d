-- Faults 3, 4 and 5 of the triangle across, of a side, of a triangle and of the mesh.
pub mod Earliest
pub mod Back
pub mod Side
