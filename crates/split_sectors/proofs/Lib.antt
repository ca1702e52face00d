-- Arcs, and the parts about a centre in turn.
pub mod Arcing
pub mod Turns
