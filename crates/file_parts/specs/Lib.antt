-- What reading a file with a sound header asks.
pub mod Room
