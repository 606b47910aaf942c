use Rattle.grammar.proofs.Patterns.{Storing}
use lib.ListN.{length}
use mathlib.Core.Path.{◌≡◌}
use Rattle.sync_records.proofs.store_fields.Given as goal

abbrev pub invariant-loop-i : goal.invariant-loop-i
invariant-loop-i l = (length l.own ≡ 64) × (l.t.bytes.now ≡ l.fn.t.bytes.now) × Storing l.fn.t.bytes.now l.fn.t.at l.n l.own l.t.at l.i
