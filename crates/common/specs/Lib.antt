pub mod Bases
pub mod Sorts
