-- One contour's parts.
pub mod Contour
