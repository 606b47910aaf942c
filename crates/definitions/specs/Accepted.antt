-- What the tests of refusals 1 to 4, and inside, say of one axis, as facts on B, S and c: laws and inner functions ask for these.
-- proofs/Accepted shows that they follow from the tests, and that some geometry meets them.
use Rattle.std.specs.Prelude.{ℕ, ◌+◌, ◌*◌, ◌%◌, ◌≤◌, ◌≡◌, nat_abs, ◌≤ℤ◌, pos}
use Rattle.definitions.specs.declared.Axis.{Axis}
use Rattle.definitions.specs.declared.Axes.{Axes}
use Rattle.definitions.specs.Basics.{minus}
use Rattle.definitions.specs.Geometry.{base_size, scaled_size, full_size, offset_of}

-- B and S of an accepted geometry
pub record Sized (b s : ℕ) : Type 0 where
  pub sixteens : b % 16 ≡ 0
  pub base-low : 16 ≤ b
  pub base-high : b ≤ 4096
  pub scaled-even : s % 2 ≡ 0
  pub scaled-low : b ≤ s
  pub scaled-high : s ≤ 2 * b

-- and c of a macroblock inside
pub record Inside (b s c : ℕ) : Type 0 where
  pub sized : Sized b s
  pub c-low : 8 ≤ c
  pub c-high : c + 8 ≤ s

-- an axis of an accepted geometry
pub record AcceptedAxis (a : Axis) : Type 0 where
  pub sized : Sized (base_size a) (scaled_size a)
  pub full-sixteens : full_size a % 16 ≡ 0
  pub full-low : 16 ≤ full_size a
  pub full-high : full_size a ≤ 4096
  pub offset-even : nat_abs (offset_of a) % 2 ≡ 0
  pub offset-low : minus 8192 ≤ℤ offset_of a
  pub offset-high : offset_of a ≤ℤ pos 8190

-- both axes of an accepted geometry
pub record AcceptedAxes (g : Axes) : Type 0 where
  pub horizontal : AcceptedAxis g.horizontal
  pub vertical : AcceptedAxis g.vertical
