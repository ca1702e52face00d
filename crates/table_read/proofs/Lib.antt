-- Laws that belong to no one function: words read from bytes, and the answer.
pub mod Reading
