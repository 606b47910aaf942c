use Prim.Native.Nat.{◌≤◌, ◌-◌}
use Rattle.definitions.specs.Text.{All, Letter}
use Rattle.grammar.specs.Readers.{part}
use lib.ListN.{length}
use Rattle.sync_notes.proofs.letters_end.Given as goal

abbrev pub invariant-loop-p : goal.invariant-loop-p
invariant-loop-p l = (l.from ≤ l.p) × (l.p ≤ length l.s) × All Letter (part l.s l.from l.p)

abbrev pub decreases-loop-p : goal.decreases-loop-p
decreases-loop-p l = length l.s - l.p
