-- Laws of meshes: what each test tells where it does not hold, and what an accepted mesh has.
pub mod Sides
pub mod Accepted
pub mod Rows
pub mod Passes
