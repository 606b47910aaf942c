use Rattle.grammar.proofs.Reading.{handed_on}
use Rattle.grammar.proofs.Numerals.{nonzero-of, minus-ends, minus-bad, minus-digits}
use Rattle.grammar.proofs.Signs.{neg-is16}
use mathlib.Core.Path.{refl}
use native.Mathlib.Omega.{arith}
use Rattle.sync_numbers.proofs.dashed.Goals as goal

pub returns-in_err-b-clause-read : goal.returns-in_err-b-clause-read
returns-in_err-b-clause-read c = rw (handed_on c.from_residual.ensures.1, c.in_err-b.ensures.1) (minus-ends _ _ c.args.t.now.within c.in_err-b.ensures.0)

pub overflow_sub-b : goal.overflow_sub-b
overflow_sub-b c = omega (arith, nonzero-of _ _ c.class_of-c.ensures c.in-Nonzero.is)

pub returns-in-Nonzero-clause-read : goal.returns-in-Nonzero-clause-read
returns-in-Nonzero-clause-read c =
    let e = c.in_ok-b.ensures.1 in
    let b = nonzero-of _ _ (rw e at c.class_of-c.ensures) c.in-Nonzero.is in
    rw (neg-is16 _ c.figures-n.ensures.read.most) (minus-digits _ _ c.in_ok-b.ensures.0 b.0 b.1 _ _ (rw e at c.figures-n.ensures.read))

pub returns-in_default : goal.returns-in_default
returns-in_default c = record { read = minus-bad _ _ c.args.t.now.within _ (rw c.in_ok-b.ensures.1 at c.class_of-c.ensures) c.in_default.not-Nonzero; kept = refl }
