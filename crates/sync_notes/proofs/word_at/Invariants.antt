use lib.ListN.{drop}
use mathlib.Core.Path.{◌≡◌}
use Rattle.grammar.specs.Found.{Got}
use Rattle.grammar.specs.Readers.{Exactly, ReadAt}
use Rattle.sync_notes.proofs.word_at.Given as goal

abbrev pub invariant-loop-b : goal.invariant-loop-b
invariant-loop-b l =
    (l.t.bytes.now ≡ l.fn.t.bytes.now) × ((r : Got) → ReadAt (Exactly (drop l.b-index l.w)) l.fn.t.bytes.now l.t.at r → ReadAt (Exactly l.w) l.fn.t.bytes.now l.fn.t.at r)
