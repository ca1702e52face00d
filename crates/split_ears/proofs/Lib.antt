-- The ring of corners not yet clipped, and the ears in turn.
pub mod Ringing
pub mod Ears
