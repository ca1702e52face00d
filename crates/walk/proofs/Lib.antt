-- Laws of the calls on walks: their answers by fault, and that the defined answers keep the
-- promises of specs/Clauses.antt.
pub mod Answers
pub mod Promises
