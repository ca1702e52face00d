-- What the contracts cite: numbers of two words.
pub mod Words
