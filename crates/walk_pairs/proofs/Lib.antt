-- The calls hand out the pair's contour.
pub mod HandedOut
