-- Laws of the calls that measure.
pub mod Answers
