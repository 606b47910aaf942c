use mathlib.Core.Path.{◌∙◌}
use mathlib.Core.Bool.{◌&&◌}
use mathlib.Core.List.{map}
use Rattle.records.proofs.FirstBlocks.{references-same}
use Rattle.records.proofs.check.same_references.Goals as goal

pub returns : goal.returns
returns g c = (λ i. c.same_word.ensures i && c.same_word-2.ensures i) ∙ references-same (map g.W.Word.value c.args.words.now) c.args.q c.args.e
