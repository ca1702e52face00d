-- What holds of the split parts of an accepted mesh as an operand and in the listing.
pub mod Operand
pub mod Total
