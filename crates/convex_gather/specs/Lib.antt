-- What the contracts cite: parts handed out.
pub mod Gather
