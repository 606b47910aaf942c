use Rattle.grammar.proofs.Reading.{handed_on}
use Rattle.grammar.proofs.Patterns.{form-bad, chain-word, chain-word-bad, tail-stored}
use Rattle.definitions.specs.Text.{intra, words_for}
use borrow.Author.Rules.{rules}
use mathlib.Core.Path.{◌≡◌, refl, ap, ◌∙◌}
use mathlib.Core.List.{[], ◌∷◌}
use lib.IntN.{ℤ, pos}
use lib.Seq.{sets}
use lib.ListN.{get_or}
use mir.Val.{to_z, of_z}
use mir.Syntax.{w16}
use Rattle.sync_records.proofs.intra_tail.Goals as goal

pub returns-in_err-fields_after-clause-read : goal.returns-in_err-fields_after-clause-read
returns-in_err-fields_after-clause-read c = rw (handed_on c.from_residual.ensures.1) (refl, form-bad _ _ _ _ _ c.in_err-fields_after.ensures.read.1)

pub returns-in_err-word_at-clause-read : goal.returns-in_err-word_at-clause-read
returns-in_err-word_at-clause-read c =
    let k = c.fields_after.ensures.kept in
    rw (handed_on c.from_residual-in_err-word_at.ensures.1) (refl, chain-word-bad c.in_ok-fields_after.ensures.read (10 ∷ []) [] (rw k at c.in_err-word_at.ensures.read))

pub returns-clause-read : goal.returns-clause-read
returns-clause-read c =
    let k = c.fields_after.ensures.kept in
    let x = get_or c.fields_after.new.out 0 (pos 0) in
    let d : to_z w16 (of_z w16 x) ≡ x = search rules in
    tail-stored intra _ _ c.args.out.now c.args.from _ (pos 0 ∷ []) _ _ refl (c.put_record.ensures ∙ ap (λ (z : ℤ). sets c.args.out.now c.args.from (words_for intra (z ∷ []))) d)
    (chain-word c.in_ok-fields_after.ensures.read (rw k at c.in_ok-word_at.ensures.read))
