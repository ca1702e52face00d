-- Laws that belong to no one function, in reading order: halves of a word; a sign with a magnitude.
pub mod Halves
pub mod Signs
