use Rattle.grammar.proofs.Items.{letters-none, letters-more, letters-end}
use native.Mathlib.Omega.{arith}
use Rattle.sync_notes.proofs.letters_end.Goals as goal

pub loop-p-init : goal.loop-p-init
loop-p-init c = (omega arith, c.requires, letters-none _ _)

pub loop-p-preserved : goal.loop-p-preserved
loop-p-preserved c = (omega arith, omega arith, letters-more _ _ c.loop-p.p c.loop-p.invariant.0 c.loop-p.invariant.2 c.loop-p-test.true (omega arith, omega arith))

pub returns-in_default : goal.returns-in_default
returns-in_default c = letters-end _ _ c.loop-p.p c.loop-p.invariant.0 c.loop-p.invariant.2 c.loop-p.invariant.1 (λ q d. omega (arith, d.0, d.1))

pub returns-in_default-2 : goal.returns-in_default-2
returns-in_default-2 c = letters-end _ _ c.loop-p.p c.loop-p.invariant.0 c.loop-p.invariant.2 c.loop-p.invariant.1 (λ q d. omega (arith, d.0, d.1))
