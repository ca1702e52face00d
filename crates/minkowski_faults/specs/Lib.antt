-- What the contracts cite: the faults of two operands, those before 8 and those after it.
pub mod Kinds
