-- A walk's points put one after another.
pub mod Unroll
