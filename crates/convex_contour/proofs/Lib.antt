-- A whole region's contour, read and appended.
pub mod Contours
