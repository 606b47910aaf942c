use mathlib.Core.Path.{sym}
use native.Mathlib.Omega.{arith}
use borrow.Author.Tests.{ne_eqb}
use Rattle.definitions.proofs.Choices.{no}
use Rattle.records.specs.Checking.{found_at}
use Rattle.rules.proofs.broken_at.Goals as goal

pub returns : goal.returns
unfolding found_at
returns c = sym (no _ _ (ne_eqb c.args.rule 0 (λ e. omega (arith, e, c.requires.1))))
