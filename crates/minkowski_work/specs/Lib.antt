-- What the contracts cite: the answer for two operands, and work buffers for them.
pub mod Scratch
