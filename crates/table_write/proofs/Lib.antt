-- Laws that belong to no one function: words written, and the answer.
pub mod Writing
