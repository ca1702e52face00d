-- A place and two mesh files; what is told of them.
pub mod Placed
pub mod Rightly
