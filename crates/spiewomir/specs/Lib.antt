pub mod Results
pub mod Demands
pub mod Sessions
pub mod Texts
pub mod Version
pub mod Laws
pub mod Examples
