-- What holds of walks and pairs; specs/Demand.antt has the statements and Theorem their proofs. In
-- reading order. From places to lists of edges: where a walk starts, its edges, the pair's steps,
-- the corner count, the premise without repeated corners.
pub mod Start
pub mod Places
pub mod Live
pub mod PairSteps
pub mod FewCorners
pub mod Repeats
-- Ascending lists of edges with sum zero: cuts, the join of two, reaches, turns, and the main
-- theorem over them (Farthest).
pub mod Convex
pub mod Totals
pub mod Join
pub mod Splits
pub mod Reaches
pub mod Gaps
pub mod Upper
pub mod Counts
pub mod StrictCorners
pub mod Contained
pub mod Farthest
-- From a table to such a list, either way round, and turned through the origin.
pub mod Windings
pub mod Tables
pub mod Readings
pub mod Turned
-- De Berg et al., strictly convex contours, and the theorems.
pub mod DeBerg
pub mod Sharp
pub mod Theorem
pub mod Examples
