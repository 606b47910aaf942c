-- `check` meets its contract: the verdict from the address on is the whole's; the quadrants passed keep rule 6. Assumes nothing.
use mathlib.Core.Path.{◌≡◌}
use mathlib.Core.Bool.{true}
use mathlib.Core.List.{map}
use Rattle.definitions.specs.Basics.{all_below}
use Rattle.definitions.specs.Replies.{Accepted}
use Rattle.records.proofs.Verdicts.{verdict}
use Rattle.rules.specs.Searching.{pieces_right}
use Rattle.rules.proofs.check.Given as goal

abbrev pub invariant-loop-q : goal.invariant-loop-q
invariant-loop-q g l = (l.found ≡ Accepted) × (all_below l.q (pieces_right (map g.W.Word.value l.words)) ≡ true)

abbrev pub invariant-records : goal.invariant-records
invariant-records g l = (l.found ≡ Accepted) × (verdict l.limit (map g.W.Word.value l.base) l.a l.to ≡ verdict l.limit (map g.W.Word.value l.base) l.from l.to)
