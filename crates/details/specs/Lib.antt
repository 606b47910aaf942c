-- The detail bits of a macroblock by the coordinates that its axes give, and the bits of the macroblocks that are read.
pub mod Bits
