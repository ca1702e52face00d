-- Laws that belong to no one function: corners on the grid.
pub mod Grid
