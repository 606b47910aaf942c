use mathlib.Core.Path.{refl, sym, ◌∙◌}
use Rattle.definitions.specs.Record.{rule3}
use Rattle.records.proofs.Ranges.{ends_are, sub-types-zero, references}
use Rattle.scan.proofs.Kept.{at_first, at_second}
use mathlib.Core.Path.{ap}
use mathlib.Core.Bool.{not}
use mathlib.Core.List.{map}
use Rattle.scan.proofs.undivided_head.Goals as goal

pub returns-then-not-all_within : goal.returns-then-not-all_within
returns-then-not-all_within g c = at_first (rule3 (map g.W.Word.value c.args.words.now)) (ends_are (map g.W.Word.value c.args.words.now) 1 4 c.all_within.ensures c.only_zero.ensures ∙ sym (sub-types-zero (map g.W.Word.value c.args.words.now) c.requires)) refl (ap not c.if-not-all_within.true)

pub returns : goal.returns
returns g c = at_second (rule3 (map g.W.Word.value c.args.words.now)) (ends_are (map g.W.Word.value c.args.words.now) 1 4 c.all_within.ensures c.only_zero.ensures ∙ sym (sub-types-zero (map g.W.Word.value c.args.words.now) c.requires)) refl (ap not c.if-not-all_within.false)
    (ends_are (map g.W.Word.value c.args.words.now) 5 8 c.all_within-2.ensures c.references.ensures ∙ sym (references (map g.W.Word.value c.args.words.now)))
