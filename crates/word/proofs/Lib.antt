-- Laws that the proofs of the functions cite, here and in the crates above.
pub mod Rounded
pub mod Wide
