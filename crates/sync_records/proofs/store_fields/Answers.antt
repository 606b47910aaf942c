use Rattle.grammar.proofs.Reading.{handed_on}
use Rattle.grammar.proofs.Patterns.{storing-first, storing-more, storing-stuck, storing-done, storing-cut}
use mir.Val.{to_z, of_z}
use mir.Syntax.{w16}
use lib.IntN.{ℤ}
use lib.ListN.{length, take, set, length-set}
use lib.Seq.{sets}
use borrow.Author.Rules.{rules}
use native.Mathlib.Omega.{arith}
use mathlib.Core.Path.{◌≡◌, refl, ap, ◌∙◌}
use Prim.Native.Nat.{ℕ, ◌+◌, ◌-◌}
use Rattle.sync_records.proofs.store_fields.Goals as goal

pub loop-i-init : goal.loop-i-init
loop-i-init c = (refl, refl, storing-first _ _ _ _ c.args.t.now.within)

pub returns-in_err-own-clause-read : goal.returns-in_err-own-clause-read
returns-in_err-own-clause-read c =
    let k = c.loop-i.invariant.1 in
    rw (handed_on c.from_residual.ensures.1) (storing-stuck _ _ c.args.n c.loop-i.own c.loop-i.t.at c.loop-i.i c.loop-i.invariant.2 c.loop-i-test.true c.args.out.now c.args.from _ (rw k at c.in_err-own.ensures.read))

pub loop-i-preserved : goal.loop-i-preserved
loop-i-preserved c =
    let k = c.loop-i.invariant.1 in
    let q : to_z w16 (of_z w16 c.in_ok-own.field-0) ≡ c.in_ok-own.field-0 = search rules in
    let e : length c.loop-i.own ≡ 64 = c.loop-i.invariant.0 in
    rw q (length-set c.loop-i.own c.loop-i.i c.in_ok-own.field-0 ∙ e, rw k at c.field.ensures.kept, storing-more _ _ c.args.n c.loop-i.own c.loop-i.t.at c.loop-i.i c.loop-i.invariant.2 c.loop-i-test.true (omega (arith, c.requires.0)) c.in_ok-own.field-0 _ (rw k at c.in_ok-own.ensures.read))

pub returns-in_err-own-2-clause-read : goal.returns-in_err-own-2-clause-read
returns-in_err-own-2-clause-read c =
    let k = c.loop-i.invariant.1 in
    rw (handed_on c.from_residual-in_err-own-2.ensures.1) (storing-cut _ _ c.args.n c.loop-i.own c.loop-i.t.at c.loop-i.i c.loop-i.invariant.2 c.loop-i-test.false c.args.out.now c.args.from _ (rw k at c.in_err-own-2.ensures.read))

pub returns-clause-read : goal.returns-clause-read
returns-clause-read c =
    let k = c.loop-i.invariant.1 in
    let q : to_z w16 (of_z w16 c.in_ok-own-2.field-0) ≡ c.in_ok-own-2.field-0 = search rules in
    let j : c.args.n + 1 - 0 ≡ c.args.n + 1 = omega arith in
    let e : length c.loop-i.own ≡ 64 = c.loop-i.invariant.0 in
    let w =
    c.put_words.ensures ∙ ap (λ (j : ℕ). sets c.args.out.now c.args.from (take j (set c.loop-i.own c.args.n (to_z w16 (of_z w16 c.in_ok-own-2.field-0))))) j
    ∙ ap (λ (y : ℤ). sets c.args.out.now c.args.from (take (c.args.n + 1) (set c.loop-i.own c.args.n y))) q in
    storing-done _ _ c.args.n c.loop-i.own c.loop-i.t.at c.loop-i.i c.loop-i.invariant.2 c.loop-i-test.false (omega (arith, c.requires.0)) c.in_ok-own-2.field-0 _ (rw k at c.in_ok-own-2.ensures.read) c.args.out.now c.args.from _ w
