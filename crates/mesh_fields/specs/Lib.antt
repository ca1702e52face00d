-- The fields of a mesh that is written by hand, and what putting their words leaves.
pub mod Entries
pub mod Put
