-- The answer of writing a table, and what it leaves in the lent bytes.
pub mod Written
