-- What the contracts of this crate and of those above it cite: Plane, Halves and Contour first,
-- then how the machine's structs are read and bounded.
pub mod Plane
pub mod Halves
pub mod Contour
pub mod Machine
