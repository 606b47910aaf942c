use Rattle.grammar.proofs.Reading.{handed_on}
use Rattle.grammar.proofs.Patterns.{form-bad, chain-word, chain-numbers, chain-bad, chain-word-bad, tail-stored}
use Rattle.definitions.specs.Text.{whole}
use mathlib.Core.Path.{refl}
use mathlib.Core.List.{List, [], ◌∷◌}
use lib.IntN.{ℤ, pos}
use Rattle.sync_records.proofs.whole_tail.Goals as goal

abbrev zeros : List ℤ
zeros = pos 0 ∷ pos 0 ∷ pos 0 ∷ pos 0 ∷ pos 0 ∷ pos 0 ∷ pos 0 ∷ []

pub returns-in_err-fields_after-clause-read : goal.returns-in_err-fields_after-clause-read
returns-in_err-fields_after-clause-read c = rw (handed_on c.from_residual.ensures.1) (refl, form-bad _ _ _ _ _ c.in_err-fields_after.ensures.read.1)

pub returns-in_err-fields_after-2-clause-read : goal.returns-in_err-fields_after-2-clause-read
returns-in_err-fields_after-2-clause-read c =
    let k1 = c.fields_after.ensures.kept in
    let b = rw k1 at c.in_err-fields_after-2.ensures.read in
    rw (handed_on c.from_residual-in_err-fields_after-2.ensures.1) (refl, chain-bad c.in_ok-fields_after.ensures.read _ _ b.1)

pub returns-in_err-fields_after-3-clause-read : goal.returns-in_err-fields_after-3-clause-read
returns-in_err-fields_after-3-clause-read c =
    let k1 = c.fields_after.ensures.kept in
    let v2 = chain-numbers c.in_ok-fields_after.ensures.read (rw k1 at c.in_ok-fields_after-2.ensures.read) refl in
    let k2 = rw k1 at c.fields_after-2.ensures.kept in
    let b = rw k2 at c.in_err-fields_after-3.ensures.read in
    rw (handed_on c.from_residual-in_err-fields_after-3.ensures.1) (refl, chain-bad v2 _ _ b.1)

pub returns-in_err-word_at-clause-read : goal.returns-in_err-word_at-clause-read
returns-in_err-word_at-clause-read c =
    let k1 = c.fields_after.ensures.kept in
    let v2 = chain-numbers c.in_ok-fields_after.ensures.read (rw k1 at c.in_ok-fields_after-2.ensures.read) refl in
    let k2 = rw k1 at c.fields_after-2.ensures.kept in
    let v3 = chain-numbers v2 (rw k2 at c.in_ok-fields_after-3.ensures.read) refl in
    let k3 = rw k2 at c.fields_after-3.ensures.kept in
    rw (handed_on c.from_residual-in_err-word_at.ensures.1) (refl, chain-word-bad v3 (10 ∷ []) [] (rw k3 at c.in_err-word_at.ensures.read))

pub returns-clause-read : goal.returns-clause-read
returns-clause-read c =
    let k1 = c.fields_after.ensures.kept in
    let v2 = chain-numbers c.in_ok-fields_after.ensures.read (rw k1 at c.in_ok-fields_after-2.ensures.read) refl in
    let k2 = rw k1 at c.fields_after-2.ensures.kept in
    let v3 = chain-numbers v2 (rw k2 at c.in_ok-fields_after-3.ensures.read) refl in
    let k3 = rw k2 at c.fields_after-3.ensures.kept in
    tail-stored whole _ _ c.args.out.now c.args.from _ zeros _ _ refl c.put_whole.ensures (chain-word v3 (rw k3 at c.in_ok-word_at.ensures.read))
