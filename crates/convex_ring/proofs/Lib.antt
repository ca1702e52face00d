-- The buffers of a region read as a zipper.
pub mod Reading
