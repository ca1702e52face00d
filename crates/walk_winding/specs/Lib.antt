-- The winding as the code forms it.
pub mod Winding
