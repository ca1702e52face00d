-- What an answer of the sum tells; the pass, and what a sound mesh has.
pub mod Totals
pub mod Passes
