-- What the contracts cite: the tests of a drawing's numbers, grid coordinates.
pub mod Grid
