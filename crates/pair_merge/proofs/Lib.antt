-- What the merge's code leans on: corners put into lent numbers, and the merge a turn at a time.
pub mod Placing
pub mod Merging
