-- Proofs of the statements: corners are sums; bounds; the buffers; how many corners.
pub mod Sums
pub mod Bounds
pub mod Buffers
pub mod Few
