-- A pair job: its bytes.
pub mod Job
