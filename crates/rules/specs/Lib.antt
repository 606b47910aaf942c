-- The definitions that only this crate's contracts cite.
pub mod Searching
