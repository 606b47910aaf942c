-- Motions by value, what is asked of one that is scaled and written, and what it is scaled by.
pub mod Range
pub mod Scales
pub mod ByValue
