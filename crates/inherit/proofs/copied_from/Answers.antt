use mathlib.Core.Path.{sym, ◌∙◌}
use native.Mathlib.Omega.{arith}
use Rattle.definitions.specs.Inheriting.{copied_from}
use Rattle.definitions.proofs.Choices.{yes, no}
use Rattle.definitions.proofs.Steps.{horizontal-below, vertical-below}
use Rattle.inherit.proofs.copied_from.Goals as goal

pub returns-then-live-q : goal.returns-then-live-q
unfolding copied_from
returns-then-live-q c = (sym (yes _ _ c.if-live-q.true), omega arith)

pub returns-then-live-h : goal.returns-then-live-h
unfolding copied_from
returns-then-live-h c = (sym (no _ _ c.if-live-q.false ∙ yes _ _ c.if-live-h.true), horizontal-below c.args.q (omega arith))

pub returns : goal.returns
unfolding copied_from
returns c = (sym (no _ _ c.if-live-q.false ∙ no _ _ c.if-live-h.false), vertical-below c.args.q (omega arith))
