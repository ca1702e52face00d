-- What contracts cite: chains of places by numbers, and their corners.
pub mod Chains
