pub mod Values
pub mod Promises
mod Stages
mod Handing
