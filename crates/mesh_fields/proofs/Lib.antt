-- Laws: what a put leaves, one after another; the fields by the tests that the code makes.
pub mod Puts
pub mod Tests
