-- What holds of all pairs of two accepted operands.
pub mod Results
