-- Laws for the proofs of the functions.
mod Steps
pub mod Verdicts
mod Rows
mod Bounds
