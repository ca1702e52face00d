-- What the contracts cite: corners put into lent numbers.
pub mod Putting
