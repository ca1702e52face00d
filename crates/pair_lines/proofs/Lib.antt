-- Laws of the lines of pairs: their pieces and lengths; the line of a pair of walks; their order;
-- lines computed.
pub mod Pieces
pub mod Sizes
pub mod Pairs
pub mod Order
pub mod Examples
