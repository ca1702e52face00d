-- What contracts cite: walks gathered in a buffer, and their merges.
pub mod Walks
