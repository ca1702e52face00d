-- Parts handed out.
pub mod Answer
