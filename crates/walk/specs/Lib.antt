-- What the calls on walks answer (document 01, "Faults that come from the state"), and what each
-- promises.
pub mod Calls
pub mod Clauses
