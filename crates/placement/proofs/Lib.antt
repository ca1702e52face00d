-- Laws of where a place lies: tests joined; faults; one contour, edge by edge; the contours in
-- turn.
pub mod Bools
pub mod Faults
pub mod Contour
pub mod Contours
