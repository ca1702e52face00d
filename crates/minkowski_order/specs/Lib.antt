-- Pairs in order.
pub mod Order
