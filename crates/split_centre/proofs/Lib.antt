-- Laws that belong to no one function, in reading order: rounding; where the centre lies; a lent
-- contour read; the sums over the wedges at the first corner; what the centre asks of them; to the
-- left of each edge.
pub mod Rounding
pub mod Range
pub mod Reading
pub mod Fan
pub mod Place
pub mod Inside
