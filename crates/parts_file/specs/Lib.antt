-- The stored table of a file's split parts; that reading it gives them back; that more input
-- changes nothing.
pub mod Parts
pub mod ReadBack
pub mod MoreInput
