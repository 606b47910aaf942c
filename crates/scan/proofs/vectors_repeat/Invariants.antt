-- `vectors_repeat` meets its contract: the blocks passed. Assumes nothing.
use Prim.Native.Nat.{◌+◌, ◌-◌, ◌≤◌}
use mathlib.Core.Path.{◌≡◌}
use mathlib.Core.List.{map}
use Rattle.definitions.specs.Basics.{all_below}
use Rattle.scan.proofs.Undivided.{again}
use Rattle.scan.proofs.vectors_repeat.Given as goal

abbrev pub invariant-loop-b : goal.invariant-loop-b
invariant-loop-b g l =
    (l.b - (l.first + l.step) ≤ l.end - (l.first + l.step)) × (l.same ≡ all_below (l.b - (l.first + l.step)) (again (map g.W.Word.value l.words) l.first l.step))
