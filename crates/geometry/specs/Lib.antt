-- The definitions that this crate's contracts add to those of document 01.
pub mod Checked
pub mod Step
