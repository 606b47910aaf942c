use borrow.Author.Rules.{rules}
use mathlib.Core.List.{map}
use mathlib.Core.Path.{sym, ◌∙◌}
use lib.IntN.{pos}
use mir.Syntax.{w32}
use Rattle.std.proofs.lemmas.List.{get_or-map}
use Rattle.records.proofs.Ranges.{use-none, use-each}
use Rattle.records.proofs.Words.{bits_are, bits-are-not}
use Rattle.rules.proofs.Parts.{four-used, told, within}
use Rattle.rules.proofs.usage_right.Goals as goal

pub returns-in-0 : goal.returns-in-0
returns-in-0 g c =
    let words = map g.W.Word.value c.args.words.now in
    let kind = c.get.ensures.is ∙ sym (get_or-map g.W.Word.value c.args.words.now 0 c.index-words-0.result (pos 0) (search rules)) in
    within words 5 8 c.all_within.ensures c.only_unused.ensures.0 c.only_unused.ensures.1
    ∙ sym (use-none words (told (pos 0) kind (bits_are w32 c.get.result (pos 0) (search rules) (search rules) (search rules))))

pub returns-in_default : goal.returns-in_default
returns-in_default g c =
    let words = map g.W.Word.value c.args.words.now in
    let kind = c.get.ensures.is ∙ sym (get_or-map g.W.Word.value c.args.words.now 0 c.index-words-0.result (pos 0) (search rules)) in
    four-used words c.quadrant_used.ensures c.quadrant_used-in_default.ensures c.quadrant_used-in_default-2.ensures c.quadrant_used-in_default-3.ensures
    ∙ sym (use-each words (told (pos 0) kind (bits-are-not w32 c.get.result (pos 0) (search rules) (search rules) (search rules))))
