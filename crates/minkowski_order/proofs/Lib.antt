-- What the code leans on: pairs in order, pairs as chains, all pairs in a list, and the buffers cut
-- to the points in use.
pub mod Order
pub mod Held
pub mod Pairs
pub mod Cut
