-- The answer of reading a stored table, and what it leaves in the lent buffers.
pub mod Read
