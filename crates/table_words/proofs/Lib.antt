-- Laws that belong to no one function: words copied from bytes; words written at a place.
pub mod Copies
pub mod Places
