-- Lines and fields of a text.
pub mod Fields
