-- What the code leans on: chains a turn at a time, where a lane stands, lanes of pairs side by
-- side, and that chains are walks merged.
pub mod Chains
pub mod Lanes
pub mod Merged
