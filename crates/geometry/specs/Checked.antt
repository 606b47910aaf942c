-- What refusals 1 to 4 leave of numbers: the axes, or their refusal; and what each axis keeps.
use Rattle.std.specs.Prelude.{T, Result, Ok, Err as Refused}
use Rattle.std.specs.Int.Signed.{non_neg}
use Rattle.definitions.specs.declared.Axes.{Axes}
use Rattle.definitions.specs.declared.AxisNumbers.{AxisNumbers}
use Rattle.definitions.specs.declared.Numbers.{Numbers}
use Rattle.definitions.specs.declared.Refusal.{Refusal}
use Rattle.definitions.specs.Replies.{Verdict, Accepted}
use Rattle.definitions.specs.Geometry.{axes_of}

-- by the verdict
abbrev pub checked_by : Verdict → Numbers → Result Axes Refusal
checked_by Accepted n = Ok (axes_of n)
checked_by (Refused r) n = Refused r

-- B, S and E are not below 0
pub record NoneNegative (n : AxisNumbers) : Type 0 where
  pub base : T (non_neg n.base)
  pub scaled : T (non_neg n.scaled)
  pub full : T (non_neg n.full)
