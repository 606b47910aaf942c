-- `vectors_right` meets its contract: all words fit, and the quadrants passed. Assumes nothing.
use mathlib.Core.Bool.{◌&&◌}
use mathlib.Core.List.{map}
use mathlib.Core.Path.{◌≡◌}
use Rattle.definitions.specs.Basics.{all_below}
use Rattle.rules.specs.Searching.{unused_zero}
use Rattle.rules.proofs.vectors_right.Given as goal

abbrev pub invariant-loop-q : goal.invariant-loop-q
invariant-loop-q g l = l.zero ≡ all_below l.q (λ q. unused_zero (map g.W.Word.value l.words) q 0 && unused_zero (map g.W.Word.value l.words) q 1)
