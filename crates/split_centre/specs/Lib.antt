-- What the contracts cite: a contour's centre, and what its sums ask.
pub mod Centre
