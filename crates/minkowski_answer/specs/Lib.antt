-- What the contracts cite: what a call on two operands answers.
pub mod Answer
