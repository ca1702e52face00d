-- Windings of polygons; the operand; the listing's total.
pub mod Running
pub mod Operand
pub mod Total
