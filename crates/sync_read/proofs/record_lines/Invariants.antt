use Rattle.grammar.proofs.WholeText.{Walked}
use lib.ListN.{length}
use mathlib.Core.Path.{◌≡◌}
use Prim.Native.Nat.{◌-◌}
use Rattle.sync_read.proofs.record_lines.Given as goal

abbrev pub invariant-loop-first : goal.invariant-loop-first
invariant-loop-first l = (length l.own ≡ 7722) × (l.t.bytes.now ≡ l.fn.t.bytes.now) × Walked l.fn.t.bytes.now l.fn.t.at l.t.at l.n l.own

abbrev pub decreases-loop-first : goal.decreases-loop-first
decreases-loop-first l = length l.t.bytes.now - l.t.at
