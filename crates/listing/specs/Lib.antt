-- The file and its listing (document 01, "The file and its listing").
pub mod File
pub mod Listing
