use Rattle.scan.proofs.Undivided.{block-is}
use mathlib.Core.List.{map}
use Rattle.scan.proofs.block_right.Goals as goal

pub returns : goal.returns
returns g c = block-is g.W.Word.LIMIT (map g.W.Word.value c.args.words.now) c.args.b c.quadrant_used.ensures c.block_vectors.ensures
