use Rattle.scan.proofs.Quarters.{quadrant-is}
use borrow.Author.Rules.{rules}
use mathlib.Core.List.{map}
use Rattle.scan.proofs.quick_quadrant.Goals as goal

pub returns : goal.returns
returns g c = quadrant-is (map g.W.Word.value c.args.words.now) c.args.q (search rules) g.W.Word.LIMIT
    c.block_vectors.ensures c.block_vectors-2.ensures c.block_vectors-3.ensures c.block_vectors-4.ensures c.same_in_quadrant.ensures
