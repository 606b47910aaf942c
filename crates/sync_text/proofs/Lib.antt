-- Laws that only this crate's proofs cite.
mod Reply
