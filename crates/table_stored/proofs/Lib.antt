-- Reading undoes writing, and writing reading.
pub mod RoundTrip
