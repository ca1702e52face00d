-- What holds of the contours that are printed of two mesh files.
pub mod Exact
