use mathlib.Core.Path.{◌∙◌}
use mathlib.Core.List.{map}
use Rattle.definitions.specs.Basics.{between}
use Rattle.definitions.specs.Record.{detail_of, rule7}
use Rattle.records.proofs.check.detail_right.Goals as goal

pub returns : goal.returns
unfolding rule7
returns g c = c.word_within.ensures ∙ (λ i. between (c.details.ensures.0 i) (c.details.ensures.1 i) (detail_of (map g.W.Word.value c.args.words.now)))
