-- A mesh written by hand: what its text says and which line is wrong; what is gathered of it; what
-- it is turned into.
pub mod Text
pub mod Gathering
pub mod Conversion
