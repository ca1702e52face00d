-- Splitting (document 01, "Splitting past a limit m").
pub mod Splitting
