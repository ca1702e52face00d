-- Numbers in decimal.
pub mod Numbers
