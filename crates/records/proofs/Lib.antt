-- Lists read onto the front of lent places: what was read, how many words can be, rows one more a
-- turn.
pub mod Lists
