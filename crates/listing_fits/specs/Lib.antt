-- What holds of every file's listing.
pub mod Fits
