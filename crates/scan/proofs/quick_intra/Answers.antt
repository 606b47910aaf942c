use mathlib.Core.Path.{◌∙◌}
use mathlib.Core.Bool.{◌&&◌}
use Rattle.records.proofs.Ranges.{ends_are}
use Rattle.scan.proofs.Intra.{intra-is}
use mathlib.Core.List.{map}
use Rattle.scan.proofs.quick_intra.Goals as goal

pub returns : goal.returns
returns g c = (λ i.
    (ends_are (map g.W.Word.value c.args.words.now) 1 4 c.all_within.ensures c.only_zero.ensures i
    && ends_are (map g.W.Word.value c.args.words.now) 5 8 c.all_within-2.ensures c.only_unused.ensures i)
    && ends_are (map g.W.Word.value c.args.words.now) 13 64 c.all_within-3.ensures c.only_zero-2.ensures i) ∙ intra-is g.W.Word.LIMIT (map g.W.Word.value c.args.words.now) c.requires.0 c.requires.1
