use borrow.Author.Rules.{rules}
use mathlib.Core.List.{map}
use mathlib.Core.Path.{◌∙◌}
use mathlib.Core.Bool.{◌&&◌}
use Rattle.rules.proofs.Parts.{quadrant-same}
use Rattle.rules.proofs.quadrant_pieces.Goals as goal

pub returns : goal.returns
returns g c = (λ i. ((c.same_motion.ensures i && c.same_motion-2.ensures i) && c.same_motion-3.ensures i) && c.same_motion-4.ensures i) ∙ quadrant-same (map g.W.Word.value c.args.words.now) c.args.q c.kept-keep.result (search rules) c.kept-keep.ensures.1
