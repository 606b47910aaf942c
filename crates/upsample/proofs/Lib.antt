pub mod Naming
pub mod Readiness
pub mod Staging
pub mod Within
pub mod Promises
pub mod Addresses
pub mod Kept
