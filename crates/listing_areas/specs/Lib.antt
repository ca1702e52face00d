-- What the areas of a listing ask and answer.
pub mod Areas
