-- What the contracts cite: the parts gathered.
pub mod Parts
