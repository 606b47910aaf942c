-- Laws of a geometry's sizes and addresses, of counts and of tests; other crates cite them.
pub mod Sizes
pub mod Located
pub mod Counted
pub mod Judging
pub mod Unless
