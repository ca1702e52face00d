-- Laws that belong to no one function: the winding's terms and totals.
pub mod Windings
