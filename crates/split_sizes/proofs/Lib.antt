-- Joined parts split one after another.
pub mod Each
