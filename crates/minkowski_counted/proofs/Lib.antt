-- What the code leans on: the bound on corners, pair by pair.
pub mod Counting
