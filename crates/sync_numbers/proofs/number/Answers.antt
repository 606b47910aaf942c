use Rattle.grammar.proofs.Reading.{handed_on}
use Rattle.grammar.proofs.Numerals.{nonzero-of, zero_of, dash-of, number-ends, number-bad, number-zero, number_digits, number-minus}
use Rattle.grammar.proofs.Signs.{pos-is}
use mathlib.Core.Path.{refl}
use native.Mathlib.Omega.{arith}
use Rattle.sync_numbers.proofs.number.Goals as goal

pub returns-in_err-b-clause-read : goal.returns-in_err-b-clause-read
returns-in_err-b-clause-read c = rw (handed_on c.from_residual.ensures.1, c.in_err-b.ensures.1) (number-ends _ _ c.args.t.now.within c.in_err-b.ensures.0)

pub overflow_sub-b : goal.overflow_sub-b
overflow_sub-b c = omega (arith, nonzero-of _ _ c.class_of-c.ensures c.in-Nonzero.is)

pub returns-in-Zero-clause-read : goal.returns-in-Zero-clause-read
returns-in-Zero-clause-read c = number-zero _ _ c.in_ok-b.ensures.0 (zero_of _ _ (rw c.in_ok-b.ensures.1 at c.class_of-c.ensures) c.in-Zero.is)

pub returns-in-Nonzero-clause-read : goal.returns-in-Nonzero-clause-read
returns-in-Nonzero-clause-read c =
    let e = c.in_ok-b.ensures.1 in
    let b = nonzero-of _ _ (rw e at c.class_of-c.ensures) c.in-Nonzero.is in
    rw (pos-is c.figures-n.result c.figures-n.ensures.read.most) (number_digits _ _ c.in_ok-b.ensures.0 b.0 b.1 _ _ (rw e at c.figures-n.ensures.read))

pub returns-in-Dash-clause-read : goal.returns-in-Dash-clause-read
returns-in-Dash-clause-read c = number-minus _ _ c.in_ok-b.ensures.0 (dash-of _ _ (rw c.in_ok-b.ensures.1 at c.class_of-c.ensures) c.in-Dash.is) _ c.dashed.ensures.read

pub returns-in_default : goal.returns-in_default
returns-in_default c =
    record { read = number-bad _ _ c.args.t.now.within _ (rw c.in_ok-b.ensures.1 at c.class_of-c.ensures) c.in_default.not-Zero c.in_default.not-Nonzero c.in_default.not-Dash; kept = refl }
