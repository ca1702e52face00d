-- Laws that belong to no one function, in reading order.
pub mod Terms
pub mod Vectors
pub mod Directions
pub mod Sides
pub mod Contours
pub mod Edges
pub mod Size
