-- How much a loop over steps still has before it.
pub mod Left
