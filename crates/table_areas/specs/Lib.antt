-- What the contracts cite: the doubled area of contours, and how large a sum of terms can be.
pub mod Areas
