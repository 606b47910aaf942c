use Rattle.records.proofs.Ranges.{ends_are}
use Rattle.scan.proofs.Quarters.{head-is}
use mathlib.Core.List.{map}
use Rattle.scan.proofs.quarters_head.Goals as goal

pub returns : goal.returns
returns g c = head-is (map g.W.Word.value c.args.words.now) c.requires
    (ends_are (map g.W.Word.value c.args.words.now) 1 4 c.all_within.ensures c.sub_types.ensures) (ends_are (map g.W.Word.value c.args.words.now) 5 8 c.all_within-2.ensures c.references.ensures)
    c.quadrant_used.ensures c.quadrant_used-2.ensures c.quadrant_used-3.ensures c.quadrant_used-4.ensures
