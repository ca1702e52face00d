-- Laws of the listing's areas.
pub mod Wedges
pub mod Totals
