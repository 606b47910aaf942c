-- The laws of the definitions, and laws for the proofs of the functions.
pub mod Laws
mod Demands
