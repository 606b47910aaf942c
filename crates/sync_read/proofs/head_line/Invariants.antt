use Rattle.grammar.specs.Readers.{as_read, HeadLine, StoresAt}
use Rattle.grammar.specs.Found.{Got}
use lib.ListN.{length}
use lib.IntN.{ℤ}
use mathlib.Core.List.{List}
use mathlib.Core.Path.{◌≡◌}
use Prim.Native.Nat.{◌≤◌, ◌-◌}
use Rattle.sync_read.proofs.head_line.Given as goal

abbrev pub invariant-loop-t : goal.invariant-loop-t
invariant-loop-t l =
    (l.out ≡ l.initial.out) × (l.fn.t.at ≤ l.t.at) × (l.t.bytes.now ≡ l.fn.t.bytes.now)
    × ((new : List ℤ) (r : Got) → StoresAt (HeadLine l.w) as_read l.fn.t.bytes.now l.t.at l.initial.out l.from new r → StoresAt (HeadLine l.w) as_read l.fn.t.bytes.now l.fn.t.at l.initial.out l.from new r)

abbrev pub decreases-loop-t : goal.decreases-loop-t
decreases-loop-t l = length l.t.bytes.now - l.t.at
