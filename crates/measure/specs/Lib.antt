-- What the contracts cite: doubled areas and bounds, and the faults of the calls that tell them.
pub mod Measured
