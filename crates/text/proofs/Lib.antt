-- Laws of numbers and corners as text, and of text put into lent bytes.
pub mod Digits
pub mod Denotes
pub mod Fewest
pub mod Corners
pub mod Sizes
pub mod Puts
pub mod Signed
pub mod Refusals
