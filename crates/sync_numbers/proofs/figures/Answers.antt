use Rattle.grammar.proofs.Numerals.{digit-of, no_digit, digits-first, digits_more, digits-end}
use native.Mathlib.Omega.{arith}
use Rattle.sync_numbers.proofs.figures.Goals.{else-loop-p-test, then-loop-p-test+in-Zero+then-m-top, then-loop-p-test+in_default}
use Rattle.sync_numbers.proofs.figures.Goals as goal

pub loop-p-init : goal.loop-p-init
loop-p-init c = digits-first _ _ _ _ c.args.t.now.within c.requires.0

pub overflow_sub-m : goal.overflow_sub-m
overflow_sub-m c = omega (arith, digit-of _ _ c.class_of-c.ensures c.in-Zero.is)

pub loop-p-preserved : goal.loop-p-preserved
loop-p-preserved c = digits_more _ _ _ _ _ _ c.loop-p.invariant c.loop-p-test.true (digit-of _ _ c.class_of-c.ensures c.in-Zero.is) c.if-m-top.false

pub returns-clause-read : goal.returns-clause-read
returns-clause-read c =
    digits-end _ _ _ _ _ _ c.loop-p.invariant
    (elim c.loop-p-test.branch [
      | else-loop-p-test w ↦ λ q d. absurd (omega (arith, q, w.loop-p-test.false))
      | then-loop-p-test+in-Zero+then-m-top w ↦ λ q d. w.if-m-top.true
      | then-loop-p-test+in_default w ↦ λ q d. absurd (no_digit _ _ w.class_of-c.ensures w.in_default.not-Zero w.in_default.not-Nonzero d)
    ])
