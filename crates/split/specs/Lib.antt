-- Step 5 of "Inheriting": on one quadrant, and on four.
pub mod Quadrant
pub mod Types
