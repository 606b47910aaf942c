use Rattle.grammar.proofs.Reading.{handed_on}
use Rattle.grammar.proofs.Numerals.{closer, field-bad, field_open, field-read}
use mir.Val.{to_z, of_z}
use mir.Syntax.{w16}
use mathlib.Core.Path.{◌≡◌}
use native.Mathlib.Omega.{arith}
use borrow.Author.Rules.{rules}
use Rattle.sync_numbers.proofs.field.Goals.{then-last, else-last}
use Rattle.sync_numbers.proofs.field.Goals as goal

pub returns-in_err-z-clause-read : goal.returns-in_err-z-clause-read
returns-in_err-z-clause-read c = rw (handed_on c.from_residual.ensures.1) (field-bad _ _ c.args.last _ c.in_err-z.ensures.read)

pub returns-in_err-byte-clause-read : goal.returns-in_err-byte-clause-read
returns-in_err-byte-clause-read c =
    rw (handed_on c.from_residual-in_err-byte.ensures.1, c.in_err-byte.ensures.1) (field_open _ _ c.args.last _ _ c.in_ok-z.ensures.read (λ q b. let k = c.number.ensures.kept in let u = c.in_err-byte.ensures.0 in let v = rw k at u in omega arith))

pub returns-then-branch-closer-clause-read : goal.returns-then-branch-closer-clause-read
returns-then-branch-closer-clause-read c =
    let k : c.if-last.closer ≡ closer c.args.last = elim c.if-last.branch [ then-last w ↦ rw w.if-last.true w.closer-is | else-last w ↦ rw w.if-last.false w.closer-is ] in
    let h = rw c.number.ensures.kept at c.in_ok-byte.ensures.1 in
    field_open _ _ c.args.last _ _ c.in_ok-z.ensures.read (λ q b. c.if-branch-closer.true (cc (b, k, h)))

pub returns-clause-read : goal.returns-clause-read
returns-clause-read c =
    let q : to_z w16 (of_z w16 c.in_ok-z.z) ≡ c.in_ok-z.z = search rules in
    let k : c.if-last.closer ≡ closer c.args.last = elim c.if-last.branch [ then-last w ↦ rw w.if-last.true w.closer-is | else-last w ↦ rw w.if-last.false w.closer-is ] in
    let h = rw c.number.ensures.kept at c.in_ok-byte.ensures.1 in
    rw q (field-read _ _ c.args.last c.in_ok-z.z _ c.in_ok-z.ensures.read (rw c.number.ensures.kept at c.in_ok-byte.ensures.0) (cc (c.if-branch-closer.false, k, h)))
