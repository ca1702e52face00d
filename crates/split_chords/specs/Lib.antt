-- What the contracts cite: corners of a contour in turn.
pub mod Runs
