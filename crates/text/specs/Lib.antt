-- Numbers and corners as text; what digits denote; text put into lent bytes.
pub mod Text
pub mod Denotes
pub mod Put
