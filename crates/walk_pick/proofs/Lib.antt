-- Laws that belong to no one function: which walk steps.
pub mod Picks
