-- What choosing a size leans on.
pub mod Sizes
