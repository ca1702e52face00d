-- Contours any three of whose corners turn left; that these are the strictly convex ones; the parts
-- of an accepted mesh.
pub mod Triples
pub mod Convexity
pub mod Meets
