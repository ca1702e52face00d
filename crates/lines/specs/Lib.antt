-- What the contracts cite: a name, a number and an end as text.
pub mod Text
