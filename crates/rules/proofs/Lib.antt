-- Laws that the proofs of the functions cite.
mod Parts
mod Searched
