-- Laws that belong to no one function, in reading order: parts and starts; the rules; answers by
-- their fault; the part shown; words of bytes; the stored form.
pub mod Parts
pub mod Rules
pub mod Answers
pub mod Shown
pub mod Words
pub mod StoredForm
