use Rattle.grammar.proofs.Reading.{handed_on}
use Rattle.grammar.proofs.WholeText.{head-no-numbers, head-no-end, head-read, head-stored}
use lib.IntN.{pos}
use mathlib.Core.List.{[], ◌∷◌}
use mathlib.Core.Path.{refl}
use Rattle.sync_read.proofs.head_tail.Goals as goal

pub returns-in_err-fields_after-clause-read : goal.returns-in_err-fields_after-clause-read
returns-in_err-fields_after-clause-read c = rw (handed_on c.from_residual.ensures.1) (refl, head-no-numbers c.args.w.now _ _ c.in_err-fields_after.ensures.read.1)

pub returns-in_err-word_at-clause-read : goal.returns-in_err-word_at-clause-read
returns-in_err-word_at-clause-read c =
    let k = c.fields_after.ensures.kept in
    rw (handed_on c.from_residual-in_err-word_at.ensures.1) (refl, head-no-end c.args.w.now _ _ c.in_ok-fields_after.ensures.read (rw k at c.in_err-word_at.ensures.read))

pub returns-clause-read : goal.returns-clause-read
returns-clause-read c =
    let k = c.fields_after.ensures.kept in
    head-stored c.args.w.now _ _ c.args.out.now c.args.from _ (pos 0 ∷ pos 0 ∷ []) _ _ refl c.put_words.ensures
    (head-read c.args.w.now _ _ c.in_ok-fields_after.ensures.read (rw k at c.in_ok-word_at.ensures.read))
