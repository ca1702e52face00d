-- What the contracts cite: quotients.
pub mod Quotients
