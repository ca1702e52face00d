-- Laws of splitting.
pub mod Shares
pub mod Sectors
pub mod Chords
pub mod Radial
pub mod Areas
pub mod Sizes
