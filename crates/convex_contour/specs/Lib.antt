-- What the contracts cite: a whole contour, and points appended.
pub mod Contour
