-- Faults and their numbers.
pub mod Numbers
