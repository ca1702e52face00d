-- Laws that belong to no one function: the fault by the tests that code makes; what is known of a
-- job that is cut; its bytes as code puts them; the words and the parts of a shard; that the shards
-- are the whole.
pub mod Faults
pub mod Known
pub mod Putting
pub mod Words
pub mod Parts
pub mod Read
pub mod Whole
pub mod Accepted
