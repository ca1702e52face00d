-- Laws of a place and two mesh files: the faults in their order; the answer of the pairs is that of
-- the files; what is told is so.
pub mod Faults
pub mod Answer
pub mod Rightly
