-- What the contracts cite: where a place lies by contours.
pub mod Placement
