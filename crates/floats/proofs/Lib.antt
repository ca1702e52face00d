-- Laws, in reading order: a number rounded to so many digits; sizes, and what the format makes of
-- one; comparisons; sums, differences and products by a power of two; whole numbers; the nearest
-- whole number.
pub mod Rounding
pub mod Values
pub mod Comparisons
pub mod Sums
pub mod Wholes
pub mod Nearest
