-- Laws of unrolling, in reading order: a walk's points one after another, over lists; in a buffer;
-- a walk step by step.
pub mod Along
pub mod Buffered
pub mod Walked
pub mod Contours
