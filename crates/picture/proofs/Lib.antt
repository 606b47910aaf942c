pub mod Filling
pub mod Stages
pub mod Promises
pub mod WideCases
