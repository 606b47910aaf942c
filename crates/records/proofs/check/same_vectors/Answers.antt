use mathlib.Core.Path.{◌∙◌}
use mathlib.Core.Bool.{◌&&◌}
use mathlib.Core.List.{map}
use Rattle.records.proofs.FirstBlocks.{vectors-same}
use Rattle.records.proofs.check.same_vectors.Goals as goal

pub returns : goal.returns
returns g c = (λ i. ((c.same_word.ensures i && c.same_word-2.ensures i) && c.same_word-3.ensures i) && c.same_word-4.ensures i) ∙ vectors-same (map g.W.Word.value c.args.words.now) c.args.b c.args.d
