-- The definitions of walks and pairs, in document 01's order, those that demand 3 speaks in, and a
-- pair's steps as lists of edges.
pub mod Walk
pub mod Pair
pub mod Premise
pub mod Berg
pub mod Demand
pub mod EdgeLists
