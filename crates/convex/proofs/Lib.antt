-- What holds of joining, in reading order.
-- That it ends; that the zipper form agrees.
pub mod Taken
pub mod Ends
pub mod Lookups
pub mod Slots
pub mod Zipped
-- Of an accepted mesh: each triangle is taken once; a contour's area is that of its triangles; it
-- goes once round; its parts are strictly convex, few and short, and have only vertices of the mesh
-- as corners.
pub mod Regions
pub mod Whole
pub mod Areas
pub mod Forward
pub mod Round
pub mod Newest
pub mod Straight
pub mod Parts
pub mod Sizes
pub mod Vertices
pub mod Theorem
