-- What a reading of the input says of its buffer: no more bytes were read than it has. (Which bytes a read gave no contract can say.)
use Rattle.std.specs.Prelude.{ℕ, ◌≤◌, List, length, Result, Ok, Err}

abbrev pub InputRead : {E : Type 0} → Result ℕ E → List ℕ → Type 0
InputRead (Ok n) buf = n ≤ length buf
InputRead (Err failed) buf = Unit
