-- Laws for the proofs of the functions.
pub mod Judged
pub mod Rows
