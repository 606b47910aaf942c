-- `quick_quarters` meets its contract: rules 2 to 4, and the quadrants passed are right. Assumes nothing.
use mathlib.Core.Path.{◌≡◌}
use mathlib.Core.Bool.{true}
use mathlib.Core.List.{map}
use Rattle.definitions.specs.Basics.{all_below}
use Rattle.scan.specs.Quick.{quadrant_right}
use Rattle.scan.proofs.quick_quarters.Given as goal

abbrev pub invariant-loop-q : goal.invariant-loop-q
invariant-loop-q g l = all_below l.q (quadrant_right g.W.Word.LIMIT (map g.W.Word.value l.words)) ≡ true
