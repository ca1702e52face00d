-- Laws: the lines by the tests and the puts that the code makes.
pub mod Steps
