pub mod Sited
pub mod Promised
