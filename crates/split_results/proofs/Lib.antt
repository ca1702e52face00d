-- The chain.
pub mod Chain
