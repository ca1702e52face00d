-- Laws that belong to no one function: the steps of one edge.
pub mod Runs
