-- What a call on two operands answers, and the room for all pairs.
pub mod Answer
pub mod Room
