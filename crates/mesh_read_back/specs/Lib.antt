-- What a mesh file that was made of a text reads back as.
pub mod ReadBack
