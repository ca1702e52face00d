-- Laws that belong to no one function.
pub mod Header
pub mod Records
