-- What the code leans on: contours one after another, and corners copied.
pub mod Contours
pub mod Copying
