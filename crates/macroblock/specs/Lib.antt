pub mod Made
pub mod Quadrants
