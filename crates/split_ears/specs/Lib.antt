-- What the contracts cite: the ring of next corners.
pub mod Rings
