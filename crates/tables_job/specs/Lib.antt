-- A pair job of two stored tables; what it is read back.
pub mod Tables
pub mod ReadBack
