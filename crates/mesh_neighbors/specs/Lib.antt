-- What the contracts cite: the earliest of faults 3, 4 and 5.
pub mod Earliest
