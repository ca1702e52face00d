-- Laws that belong to no one function, in reading order: tests against two ends; a number moved up
-- and back; step counts; the bound; single numbers.
pub mod Bands
pub mod Shifted
pub mod Steps
pub mod Bound
pub mod Examples
