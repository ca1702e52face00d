-- Laws: what fits 32 bits; the file read back.
pub mod Fits
pub mod Theorem
