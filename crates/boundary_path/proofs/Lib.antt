-- Laws that belong to no one function, in reading order: a number of bits; the item of a row.
pub mod Rows
