-- All regions gathered.
pub mod Regions
