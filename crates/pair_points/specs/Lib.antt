-- A walk as points, and the merge of two.
pub mod Points
