-- What holds of the parts of an accepted mesh, before and after a split.
pub mod Premise
