-- A shard of a pair job: its bytes and faults; what shards are of the whole.
pub mod Shard
pub mod Whole
