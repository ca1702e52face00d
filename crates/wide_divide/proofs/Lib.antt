-- Laws that belong to no one function, in reading order: a digit guessed from the divisor's upper
-- half; a divisor and a dividend scaled; a remainder against half the divisor.
pub mod Guess
pub mod Scaled
pub mod Nearest
