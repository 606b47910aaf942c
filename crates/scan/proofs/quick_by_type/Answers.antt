use mathlib.Core.List.{map}
use mathlib.Core.Path.{ap, sym, ◌∙◌}
use lib.IntN.{ℤ, pos}
use mir.Syntax.{w32}
use Rattle.std.proofs.lemmas.List.{get_or-map}
use Rattle.definitions.specs.Basics.{eq_z}
use Rattle.records.proofs.Words.{bits-are-not}
use Rattle.scan.proofs.Kept.{none-formed}
use borrow.Author.Rules.{rules}
use Rattle.scan.proofs.quick_by_type.Goals as goal

pub returns-in_default : goal.returns-in_default
returns-in_default g c =
    let kind = c.get.ensures.is ∙ sym (get_or-map g.W.Word.value c.args.words.now 0 c.index-words-0.result (pos 0) (search rules)) in
    sym
    (none-formed g.W.Word.LIMIT (map g.W.Word.value c.args.words.now)
    (ap (λ (z : ℤ). eq_z z (pos 0)) (sym kind) ∙ bits-are-not w32 c.get.result (pos 0) (search rules) (search rules) (search rules))
    (ap (λ (z : ℤ). eq_z z (pos 1)) (sym kind) ∙ bits-are-not w32 c.get.result (pos 1) (search rules) (search rules) (search rules))
    (ap (λ (z : ℤ). eq_z z (pos 2)) (sym kind) ∙ bits-are-not w32 c.get.result (pos 2) (search rules) (search rules) (search rules))
    (ap (λ (z : ℤ). eq_z z (pos 3)) (sym kind) ∙ bits-are-not w32 c.get.result (pos 3) (search rules) (search rules) (search rules))
    (ap (λ (z : ℤ). eq_z z (pos 4)) (sym kind) ∙ bits-are-not w32 c.get.result (pos 4) (search rules) (search rules) (search rules)))
