-- Laws that belong to no one function: the searches, one corner on.
pub mod Searches
