-- Laws that the proofs of the functions cite.
mod Alike
mod Kept
mod Intra
mod Undivided
mod Quarters
mod Passed
