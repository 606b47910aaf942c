-- `first_not_quick` meets its contract: the records passed are well formed. Assumes nothing.
use Prim.Native.Nat.{ℕ, ◌<◌, ◌≤◌}
use mathlib.Core.Path.{◌≡◌}
use mathlib.Core.Bool.{true}
use mathlib.Core.List.{map}
use Rattle.definitions.specs.Record.{record_at, well_formed}
use Rattle.scan.proofs.first_not_quick.Given as goal

abbrev pub invariant-loop-a : goal.invariant-loop-a
invariant-loop-a g l = (k : ℕ) → l.from ≤ k → k < l.a → well_formed g.W.Word.LIMIT (record_at (map g.W.Word.value l.base) k) ≡ true
