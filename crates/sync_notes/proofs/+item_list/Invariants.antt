use Prim.Native.Nat.{◌≤◌, ◌-◌, ◌+◌}
use mathlib.Core.Path.{◌≡◌}
use lib.ListN.{length}
use Rattle.grammar.specs.Found.{Got}
use Rattle.grammar.specs.Readers.{Items, ReadAt}
use Rattle.sync_notes.proofs.+item_list.Given as goal

abbrev pub decreases-item : goal.decreases-item
decreases-item l = l.depth + l.depth

abbrev pub decreases-list : goal.decreases-list
decreases-list l = l.depth + l.depth + 1

abbrev pub invariant-list-loop-t : goal.invariant-list-loop-t
invariant-list-loop-t l =
    (l.fn.t.at ≤ l.t.at) × (l.t.bytes.now ≡ l.fn.t.bytes.now) × ((r : Got) → ReadAt (Items l.depth) l.fn.t.bytes.now l.t.at r → ReadAt (Items l.depth) l.fn.t.bytes.now l.fn.t.at r)

abbrev pub decreases-list-loop-t : goal.decreases-list-loop-t
decreases-list-loop-t l = length l.t.bytes.now - l.t.at
