-- Which walk of a pair steps.
pub mod Picking
