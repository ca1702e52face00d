-- Laws of numbers in decimal, in reading order.
pub mod Values
pub mod Readings
