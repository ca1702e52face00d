-- Laws of all parts unrolled.
pub mod Parts
