-- Laws of all pairs.
pub mod EachPair
