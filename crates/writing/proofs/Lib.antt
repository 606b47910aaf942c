-- Laws that the proofs of the functions cite, here and in the crates above.
pub mod Apart
pub mod Placed
mod Handed
pub mod Assembled
