-- Sums that stop past 64 bits, and meshes whose triangles are sound.
pub mod Totals
pub mod Sound
