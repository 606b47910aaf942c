-- The words of a record as the functions that write it leave them.
pub mod Words
