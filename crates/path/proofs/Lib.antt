-- Laws that belong to no one function, in reading order: tests in turn; one item judged; a path in
-- order; a path judged item by item is judged as the paper says; and so written; what its loops
-- keep; a path judged as a whole; what is sure of an accepted path; small paths.
pub mod Tests
pub mod Items
pub mod Order
pub mod Judging
pub mod Writing
pub mod Turns
pub mod Whole
pub mod Accepted
pub mod Examples
