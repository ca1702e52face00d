-- Why every contour that is printed is exact, and every triangle taken once.
pub mod Printed
pub mod Taken
