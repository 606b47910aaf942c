-- What the functions of step 2 hand on, and ask.
pub mod Merging
