-- What the contracts cite: a path by the paper; a path judged and written item by item. And what is
-- sure of an accepted one.
pub mod Path
pub mod Judging
pub mod Writing
pub mod Accepted
