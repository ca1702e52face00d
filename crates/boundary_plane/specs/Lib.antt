-- What C is told of the plane.
pub mod Told
