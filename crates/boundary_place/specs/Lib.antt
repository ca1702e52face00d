-- What the contracts cite: where a place lies, laid out for C.
pub mod Told
