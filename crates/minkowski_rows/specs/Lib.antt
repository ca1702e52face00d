-- What the contracts cite: walks gathered in buffers, and the contours of their pairs put into lent
-- ones.
pub mod Rows
