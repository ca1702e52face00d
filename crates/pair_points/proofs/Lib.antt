-- What the merge of two walks gives: that grouping each list's edges first changes nothing, and so
-- that it is the pair's contour; the merge a turn at a time.
pub mod Grouping
pub mod Merged
pub mod Turns
pub mod OnContour
pub mod Sums
