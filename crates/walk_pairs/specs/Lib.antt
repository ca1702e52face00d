-- What calling a pair's step hands out.
pub mod HandedOut
