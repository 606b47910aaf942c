use mathlib.Core.Path.{◌∙◌}
use Rattle.definitions.specs.Basics.{between}
use Rattle.scan.proofs.Undivided.{block-lists}
use mathlib.Core.List.{map}
use Rattle.scan.proofs.block_vectors.Goals as goal

pub returns : goal.returns
returns g c = c.block_within.ensures ∙ block-lists g.W.Word.LIMIT (map g.W.Word.value c.args.words.now) c.args.b (between (g.W.Word.value c.range_by-range0.result.low) (g.W.Word.value c.range_by-range0.result.high)) (between (g.W.Word.value c.range_by-range1.result.low) (g.W.Word.value c.range_by-range1.result.high)) c.range_by-range0.ensures c.range_by-range1.ensures
