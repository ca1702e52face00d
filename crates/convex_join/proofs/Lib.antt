-- Parts that are gathered, answered.
pub mod Answer
