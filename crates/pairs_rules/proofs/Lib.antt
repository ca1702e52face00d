-- Laws that belong to no one function: a table's rules by its starts alone.
pub mod ByStarts
