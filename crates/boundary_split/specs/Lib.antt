-- Splitting by a number, as C asks for it.
pub mod Told
