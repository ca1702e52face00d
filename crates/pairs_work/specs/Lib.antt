-- What the contracts cite: the answer to a pair job before its lines.
pub mod Begun
