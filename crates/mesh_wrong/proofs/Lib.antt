-- Laws: what a field should be, by the tests that the code makes.
pub mod Wants
