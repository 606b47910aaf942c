-- What the readers of the text hand back, and what they promise, in the terms of the grammar.
pub mod Found
pub mod Readers
