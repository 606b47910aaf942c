-- Laws that the proofs of the functions cite.
mod Choosing
mod Merging
mod Ranks
pub mod Taking
