-- A call's answer as it is told.
pub mod Answer
