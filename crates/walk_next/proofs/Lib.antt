-- Laws that belong to no one function: what a pair's step leaves, that its answer keeps the
-- promises of walk's specs/Clauses.antt, and its step of walks that are judged.
pub mod Leaves
pub mod Promises
pub mod Judged
