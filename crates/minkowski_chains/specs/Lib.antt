-- What contracts cite: pairs in order, and their contours.
pub mod Contours
