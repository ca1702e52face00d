-- What a mesh has whose edges are shared; that sides pair up; that a clean mesh has no fault;
-- points as numbers; the code's tests of a side and a row; the second pass.
pub mod Sides
pub mod Pairing
pub mod Accepted
pub mod Packed
pub mod Tests
pub mod Passes
