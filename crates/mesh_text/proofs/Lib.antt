-- Laws: the byte-order mark; a text gathered line by line; what is written of it; a text that is
-- accepted.
pub mod Mark
pub mod Gatherings
pub mod Writing
pub mod Accepted
