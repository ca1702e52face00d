-- What the fields of a line should be, and the first that is not.
pub mod Wanted
