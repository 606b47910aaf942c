use mathlib.Core.Bool.{◌&&◌}
use Rattle.scan.proofs.Kept.{at_first, at_second}
use Rattle.scan.proofs.Undivided.{rows_parts, rows_is}
use mathlib.Core.Path.{ap}
use mathlib.Core.Bool.{not}
use mathlib.Core.List.{map}
use Rattle.scan.proofs.quick_rows.Goals as goal

pub returns-then-not-undivided_head : goal.returns-then-not-undivided_head
returns-then-not-undivided_head g c = at_first (rows_parts g.W.Word.LIMIT (map g.W.Word.value c.args.words.now)) c.undivided_head.ensures (rows_is g.W.Word.LIMIT (map g.W.Word.value c.args.words.now) c.requires.0 c.requires.1) (ap not c.if-not-undivided_head.true)

pub returns : goal.returns
returns g c = at_second (rows_parts g.W.Word.LIMIT (map g.W.Word.value c.args.words.now)) c.undivided_head.ensures (rows_is g.W.Word.LIMIT (map g.W.Word.value c.args.words.now) c.requires.0 c.requires.1) (ap not c.if-not-undivided_head.false)
    (λ i. ((((((c.block_right.ensures i && c.block_right-2.ensures i) && c.same_references.ensures i) && c.same_references-2.ensures i) && c.same_vectors.ensures i) && c.vectors_repeat.ensures i) && c.same_vectors-2.ensures i) && c.vectors_repeat-2.ensures i)
