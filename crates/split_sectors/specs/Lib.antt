-- What the contracts cite: a contour with its first corner once more at the end.
pub mod Arcs
