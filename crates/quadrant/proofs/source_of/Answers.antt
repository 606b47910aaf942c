use Rattle.std.proofs.Common.{sym, ◌∙◌, arith}
use Rattle.definitions.specs.Inheriting.{source}
use Rattle.definitions.proofs.Choices.{yes, no}
use Rattle.definitions.proofs.Steps.{horizontal-below, vertical-below, diagonal-below}
use Rattle.quadrant.proofs.source_of.Goals as goal

pub returns-then-good-k : goal.returns-then-good-k
unfolding source
returns-then-good-k c = (sym (yes _ _ c.if-good-k.true), omega arith)

pub returns-then-good-h : goal.returns-then-good-h
unfolding source
returns-then-good-h c = (sym (no _ _ c.if-good-k.false ∙ yes _ _ c.if-good-h.true), horizontal-below c.args.k (omega arith))

pub returns-then-good-v : goal.returns-then-good-v
unfolding source
returns-then-good-v c = (sym (no _ _ c.if-good-k.false ∙ (no _ _ c.if-good-h.false ∙ yes _ _ c.if-good-v.true)), vertical-below c.args.k (omega arith))

pub returns-then-good-d : goal.returns-then-good-d
unfolding source
returns-then-good-d c = (
  sym (no _ _ c.if-good-k.false ∙ (no _ _ c.if-good-h.false ∙ (no _ _ c.if-good-v.false ∙ yes _ _ c.if-good-d.true))),
  diagonal-below c.args.k (omega arith),
)

pub returns : goal.returns
unfolding source
returns c = (
  sym (no _ _ c.if-good-k.false ∙ (no _ _ c.if-good-h.false ∙ (no _ _ c.if-good-v.false ∙ no _ _ c.if-good-d.false))),
  omega arith,
)
