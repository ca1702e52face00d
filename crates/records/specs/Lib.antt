-- What the contracts cite: lists that a record holds, read onto the front of lent places.
pub mod Record
