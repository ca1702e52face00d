-- The parts before a split; each strategy's parts are polygons; the statements.
pub mod Joined
pub mod Chorded
pub mod Centred
pub mod Corners
pub mod Theorem
