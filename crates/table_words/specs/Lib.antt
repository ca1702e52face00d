-- What lent bytes hold after words were written.
pub mod Place
