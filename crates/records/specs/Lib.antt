-- The definitions that the contracts of this crate and of the checks cite.
pub mod Checking
