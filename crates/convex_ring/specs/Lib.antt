-- What the contracts cite: a region's buffers.
pub mod Buffers
