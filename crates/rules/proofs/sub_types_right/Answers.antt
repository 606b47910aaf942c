use mathlib.Core.List.{map}
use mathlib.Core.Path.{sym, ◌∙◌}
use lib.IntN.{pos}
use borrow.Author.Rules.{rules}
use mir.Syntax.{w32}
use Rattle.std.proofs.lemmas.List.{get_or-map}
use Rattle.records.proofs.Ranges.{sub-types-any, sub-types-zero}
use Rattle.records.proofs.Words.{bits_are, bits-are-not}
use Rattle.rules.proofs.Parts.{told, within}
use Rattle.rules.proofs.sub_types_right.Goals as goal

pub returns-in-4 : goal.returns-in-4
returns-in-4 g c =
    let words = map g.W.Word.value c.args.words.now in
    let kind = c.get.ensures.is ∙ sym (get_or-map g.W.Word.value c.args.words.now 0 c.index-words-0.result (pos 0) (search rules)) in
    within words 1 4 c.all_within.ensures c.sub_types.ensures.0 c.sub_types.ensures.1
    ∙ sym (sub-types-any words (told (pos 4) kind (bits_are w32 c.get.result (pos 4) (search rules) (search rules) (search rules))))

pub returns-in_default : goal.returns-in_default
returns-in_default g c =
    let words = map g.W.Word.value c.args.words.now in
    let kind = c.get.ensures.is ∙ sym (get_or-map g.W.Word.value c.args.words.now 0 c.index-words-0.result (pos 0) (search rules)) in
    within words 1 4 c.all_within-in_default.ensures (search rules) (search rules)
    ∙ sym (sub-types-zero words (told (pos 4) kind (bits-are-not w32 c.get.result (pos 4) (search rules) (search rules) (search rules))))
