-- That more input than the longest good file changes nothing.
pub mod MoreInput
