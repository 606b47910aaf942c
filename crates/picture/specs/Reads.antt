-- The readings of an axis at each column (row) of a picture.
use Rattle.std.specs.Prelude.{ℕ, ◌≤◌, ◌<◌, ◌≡◌, false, List, [], length, get_or}
use Rattle.definitions.specs.declared.Axis.{Axis}
use Rattle.macroblock.specs.declared.AxisRead.{AxisRead}
use Rattle.macroblock.specs.Made.{nowhere, read_of}

-- what stands where there is none
abbrev pub no_read : AxisRead
no_read = record { reads = []; halves = []; falls = 0; inside = false }

-- at the first n columns; the rest reads nothing
pub record AxisReads (a : Axis) (n : ℕ) (reads : List AxisRead) : Type 0 where
  pub size : length reads ≡ 256
  pub each : (k : ℕ) → k < n → get_or reads k no_read ≡ read_of a k
  pub rest : (k : ℕ) → n ≤ k → k < 256 → get_or reads k no_read ≡ nowhere
