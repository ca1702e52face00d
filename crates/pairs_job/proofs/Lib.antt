-- Laws that belong to no one function: how long a job and its tables are; the fault of its shape
-- and the job's; that more input changes nothing; that its tables are stored ones.
pub mod Sizes
pub mod Shape
pub mod More
pub mod Stored
