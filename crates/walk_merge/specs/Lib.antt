-- The merge of two walks as the code holds it.
pub mod Merging
