use Rattle.std.proofs.Common.{map, ap, ◌∙◌}
use Rattle.records.proofs.Parts.{record-numbers}
use Rattle.records.proofs.read.record_at.Goals as goal

pub returns : goal.returns
returns g c =
    ap (map g.W.Word.value) (rw c.unwrap.ensures at c.first_chunk.ensures.cases).same
    ∙ record-numbers g.W.Word.value c.args.base.now c.args.a
