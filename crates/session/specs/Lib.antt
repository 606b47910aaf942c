pub mod Values
pub mod Stage
pub mod Promised
