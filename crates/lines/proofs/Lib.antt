-- What the text is.
pub mod Texts
