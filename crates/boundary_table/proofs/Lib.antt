-- Laws of what C is told of part tables.
pub mod Place
