-- Laws that the proofs of the functions cite.
pub mod Paper
pub mod Reading
pub mod Making
pub mod Motions
mod Saying
pub mod Single
