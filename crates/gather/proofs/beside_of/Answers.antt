use mathlib.Core.Path.{sym}
use borrow.Author.Tests.{eq-eqb, ne_eqb}
use Rattle.definitions.proofs.Choices.{no, yes}
use Rattle.gather.proofs.beside_of.Goals as goal

pub returns-then-x-i-clause-is : goal.returns-then-x-i-clause-is
returns-then-x-i-clause-is c = sym (yes _ _ (eq-eqb _ _ c.if-x-i.true))

pub returns-else-x-i-clause-is : goal.returns-else-x-i-clause-is
returns-else-x-i-clause-is c = sym (no _ _ (ne_eqb _ _ c.if-x-i.false))
