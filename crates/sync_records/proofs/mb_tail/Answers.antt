use Rattle.grammar.proofs.Reading.{handed_on}
use Rattle.grammar.proofs.Patterns.{chain_first, chain-word, chain-numbers, chain-bad, chain-word-bad, one-stored, field-breaks, tail-stored}
use Rattle.definitions.specs.Record.{record_words}
use Rattle.definitions.specs.Text.{mb, spaced}
use borrow.Author.Rules.{rules}
use mir.Val.{to_z, of_z}
use mir.Syntax.{w16}
use mathlib.Core.Bool.{false}
use mathlib.Core.List.{List, [], ◌∷◌}
use mathlib.Core.Path.{◌≡◌, refl, ap}
use lib.IntN.{ℤ, pos}
use lib.ListN.{replicate, set}
use Rattle.sync_records.proofs.mb_tail.Goals as goal

abbrev zeros : List ℤ
zeros = replicate record_words (pos 0)

pub returns-in_err-word_at-clause-read : goal.returns-in_err-word_at-clause-read
returns-in_err-word_at-clause-read c =
    let v0 = chain_first _ _ zeros 0 c.args.t.now.within in
    rw (handed_on c.from_residual.ensures.1) (refl, chain-word-bad v0 (98 ∷ 32 ∷ []) _ c.in_err-word_at.ensures.read)

pub returns-in_err-own-clause-read : goal.returns-in_err-own-clause-read
returns-in_err-own-clause-read c =
    let v0 = chain_first _ _ zeros 0 c.args.t.now.within in
    let v1 = chain-word v0 c.in_ok-word_at.ensures.read in
    let k1 = c.word_at.ensures.kept in
    rw (handed_on c.from_residual-in_err-own.ensures.1) (refl, chain-bad v1 (spaced ∷ []) _ (field-breaks false _ _ _ (rw k1 at c.in_err-own.ensures.read)))

pub returns-in_err-fields_after-clause-read : goal.returns-in_err-fields_after-clause-read
returns-in_err-fields_after-clause-read c =
    let v0 = chain_first _ _ zeros 0 c.args.t.now.within in
    let v1 = chain-word v0 c.in_ok-word_at.ensures.read in
    let k1 = c.word_at.ensures.kept in
    let q : to_z w16 (of_z w16 c.in_ok-own.field-0) ≡ c.in_ok-own.field-0 = search rules in
    let v2 = chain-numbers v1 (one-stored (rw k1 at c.in_ok-own.ensures.read) (ap (set zeros 0) q)) refl in
    let k2 = rw k1 at c.field.ensures.kept in
    let b = rw k2 at c.in_err-fields_after.ensures.read in
    rw (handed_on c.from_residual-in_err-fields_after.ensures.1) (refl, chain-bad v2 _ _ b.1)

pub returns-in_err-fields_after-2-clause-read : goal.returns-in_err-fields_after-2-clause-read
returns-in_err-fields_after-2-clause-read c =
    let v0 = chain_first _ _ zeros 0 c.args.t.now.within in
    let v1 = chain-word v0 c.in_ok-word_at.ensures.read in
    let k1 = c.word_at.ensures.kept in
    let q : to_z w16 (of_z w16 c.in_ok-own.field-0) ≡ c.in_ok-own.field-0 = search rules in
    let v2 = chain-numbers v1 (one-stored (rw k1 at c.in_ok-own.ensures.read) (ap (set zeros 0) q)) refl in
    let k2 = rw k1 at c.field.ensures.kept in
    let v3 = chain-numbers v2 (rw k2 at c.in_ok-fields_after.ensures.read) refl in
    let k3 = rw k2 at c.fields_after.ensures.kept in
    let b = rw k3 at c.in_err-fields_after-2.ensures.read in
    rw (handed_on c.from_residual-in_err-fields_after-2.ensures.1) (refl, chain-bad v3 _ _ b.1)

pub returns-in_err-fields_after-3-clause-read : goal.returns-in_err-fields_after-3-clause-read
returns-in_err-fields_after-3-clause-read c =
    let v0 = chain_first _ _ zeros 0 c.args.t.now.within in
    let v1 = chain-word v0 c.in_ok-word_at.ensures.read in
    let k1 = c.word_at.ensures.kept in
    let q : to_z w16 (of_z w16 c.in_ok-own.field-0) ≡ c.in_ok-own.field-0 = search rules in
    let v2 = chain-numbers v1 (one-stored (rw k1 at c.in_ok-own.ensures.read) (ap (set zeros 0) q)) refl in
    let k2 = rw k1 at c.field.ensures.kept in
    let v3 = chain-numbers v2 (rw k2 at c.in_ok-fields_after.ensures.read) refl in
    let k3 = rw k2 at c.fields_after.ensures.kept in
    let v4 = chain-numbers v3 (rw k3 at c.in_ok-fields_after-2.ensures.read) refl in
    let k4 = rw k3 at c.fields_after-2.ensures.kept in
    let b = rw k4 at c.in_err-fields_after-3.ensures.read in
    rw (handed_on c.from_residual-in_err-fields_after-3.ensures.1) (refl, chain-bad v4 _ _ b.1)

pub returns-in_err-fields_after-4-clause-read : goal.returns-in_err-fields_after-4-clause-read
returns-in_err-fields_after-4-clause-read c =
    let v0 = chain_first _ _ zeros 0 c.args.t.now.within in
    let v1 = chain-word v0 c.in_ok-word_at.ensures.read in
    let k1 = c.word_at.ensures.kept in
    let q : to_z w16 (of_z w16 c.in_ok-own.field-0) ≡ c.in_ok-own.field-0 = search rules in
    let v2 = chain-numbers v1 (one-stored (rw k1 at c.in_ok-own.ensures.read) (ap (set zeros 0) q)) refl in
    let k2 = rw k1 at c.field.ensures.kept in
    let v3 = chain-numbers v2 (rw k2 at c.in_ok-fields_after.ensures.read) refl in
    let k3 = rw k2 at c.fields_after.ensures.kept in
    let v4 = chain-numbers v3 (rw k3 at c.in_ok-fields_after-2.ensures.read) refl in
    let k4 = rw k3 at c.fields_after-2.ensures.kept in
    let v5 = chain-numbers v4 (rw k4 at c.in_ok-fields_after-3.ensures.read) refl in
    let k5 = rw k4 at c.fields_after-3.ensures.kept in
    let b = rw k5 at c.in_err-fields_after-4.ensures.read in
    rw (handed_on c.from_residual-in_err-fields_after-4.ensures.1) (refl, chain-bad v5 _ _ b.1)

pub returns-in_err-word_at-2-clause-read : goal.returns-in_err-word_at-2-clause-read
returns-in_err-word_at-2-clause-read c =
    let v0 = chain_first _ _ zeros 0 c.args.t.now.within in
    let v1 = chain-word v0 c.in_ok-word_at.ensures.read in
    let k1 = c.word_at.ensures.kept in
    let q : to_z w16 (of_z w16 c.in_ok-own.field-0) ≡ c.in_ok-own.field-0 = search rules in
    let v2 = chain-numbers v1 (one-stored (rw k1 at c.in_ok-own.ensures.read) (ap (set zeros 0) q)) refl in
    let k2 = rw k1 at c.field.ensures.kept in
    let v3 = chain-numbers v2 (rw k2 at c.in_ok-fields_after.ensures.read) refl in
    let k3 = rw k2 at c.fields_after.ensures.kept in
    let v4 = chain-numbers v3 (rw k3 at c.in_ok-fields_after-2.ensures.read) refl in
    let k4 = rw k3 at c.fields_after-2.ensures.kept in
    let v5 = chain-numbers v4 (rw k4 at c.in_ok-fields_after-3.ensures.read) refl in
    let k5 = rw k4 at c.fields_after-3.ensures.kept in
    let v6 = chain-numbers v5 (rw k5 at c.in_ok-fields_after-4.ensures.read) refl in
    let k6 = rw k5 at c.fields_after-4.ensures.kept in
    rw (handed_on c.from_residual-in_err-word_at-2.ensures.1) (refl, chain-word-bad v6 (10 ∷ []) [] (rw k6 at c.in_err-word_at-2.ensures.read))

pub returns-clause-read : goal.returns-clause-read
returns-clause-read c =
    let v0 = chain_first _ _ zeros 0 c.args.t.now.within in
    let v1 = chain-word v0 c.in_ok-word_at.ensures.read in
    let k1 = c.word_at.ensures.kept in
    let q : to_z w16 (of_z w16 c.in_ok-own.field-0) ≡ c.in_ok-own.field-0 = search rules in
    let v2 = chain-numbers v1 (one-stored (rw k1 at c.in_ok-own.ensures.read) (ap (set zeros 0) q)) refl in
    let k2 = rw k1 at c.field.ensures.kept in
    let v3 = chain-numbers v2 (rw k2 at c.in_ok-fields_after.ensures.read) refl in
    let k3 = rw k2 at c.fields_after.ensures.kept in
    let v4 = chain-numbers v3 (rw k3 at c.in_ok-fields_after-2.ensures.read) refl in
    let k4 = rw k3 at c.fields_after-2.ensures.kept in
    let v5 = chain-numbers v4 (rw k4 at c.in_ok-fields_after-3.ensures.read) refl in
    let k5 = rw k4 at c.fields_after-3.ensures.kept in
    let v6 = chain-numbers v5 (rw k5 at c.in_ok-fields_after-4.ensures.read) refl in
    let k6 = rw k5 at c.fields_after-4.ensures.kept in
    tail-stored mb _ _ c.args.out.now c.args.from _ zeros _ _ refl c.put_words.ensures (chain-word v6 (rw k6 at c.in_ok-word_at-2.ensures.read))
