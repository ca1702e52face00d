-- Laws that belong to no one function, in reading order: points; parts gathered; parts read again.
pub mod Points
pub mod Gathering
pub mod Reading
