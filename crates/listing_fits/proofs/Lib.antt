-- Proofs of what holds of every file's listing.
pub mod Sizes
pub mod Files
