-- The text of a pair job in pieces, and which of them a call hands over; that calls hand over the
-- whole text; the pieces of walks in work buffers.
pub mod Pieces
pub mod HandedOver
pub mod Walks
