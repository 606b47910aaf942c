pub mod Given
pub mod Promised
