-- Laws that belong to no one function: a pair by its number; corners on the front of a work buffer;
-- the pairs of two operands that are not refused.
pub mod Pairs
pub mod Operands
