-- How C's rows are read.
pub mod Rows
