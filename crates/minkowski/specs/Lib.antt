-- All pairs (document 01, "Tables the desks exchange", "Faults").
pub mod Pairs
