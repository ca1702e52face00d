-- What the contracts cite: joined parts as they are read, to be split.
pub mod Parts
