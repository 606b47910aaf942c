use mathlib.Core.Path.{sym, ◌∙◌}
use Rattle.definitions.proofs.Choices.{yes, no}
use Rattle.upsample.proofs.Naming.{run-made, run_none}
use Rattle.upsample.proofs.site.run_of.Goals as goal

pub returns-then-not-read : goal.returns-then-not-read
returns-then-not-read c = run_none _ _ _ (c.if-not-read.true)

pub returns-then-is_two : goal.returns-then-is_two
returns-then-is_two c = run-made _ _ _ (c.if-not-read.false) c.address_of-from.result 2 c.address_of-from.ensures (sym (yes 2 1 (sym c.is_two.ensures ∙ c.if-is_two.true)))

pub returns : goal.returns
returns c = run-made _ _ _ (c.if-not-read.false) c.address_of-from.result 1 c.address_of-from.ensures (sym (no 2 1 (sym c.is_two.ensures ∙ c.if-is_two.false)))
