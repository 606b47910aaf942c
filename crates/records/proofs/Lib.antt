-- Laws of this crate's proofs; other crates cite those that are pub.
pub mod Addresses
pub mod Undivided
pub mod Words
pub mod Searches
pub mod Ranges
pub mod Limits
pub mod FirstBlocks
pub mod Verdicts
mod Filled
mod Parts
