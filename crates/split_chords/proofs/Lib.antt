-- Corners and parts appended, the sizes of balanced groups, and the parts of a fan in turn.
pub mod Appending
pub mod Groups
pub mod Fans
