-- That the walks of two operands with their numbers can be merged by them.
pub mod Numbers
