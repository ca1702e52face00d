-- Laws that belong to no one function: the answer by its fault; a job's operands as they are read.
pub mod Answer
pub mod Reading
