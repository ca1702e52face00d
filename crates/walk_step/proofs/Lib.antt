-- Laws that belong to no one function: the faults of a walk's calls, one by one, and the answers by
-- them.
pub mod Faults
pub mod Answers
