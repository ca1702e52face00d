-- The part table (document 01, "Tables the desks exchange").
pub mod Table
pub mod Stored
pub mod Shown
