use mathlib.Core.Path.{ap, ◌∙◌}
use Rattle.macroblock.specs.declared.Said.{Said}
use Rattle.macroblock.specs.Made.{answer_said}
use Rattle.macroblock.proofs.Making.{answer-said, keeps-detail, sort-inside}
use borrow.Author.Rules.{rules}
use Rattle.macroblock.proofs.answer.Goals as goal

pub said_in-s-requires : goal.said_in-s-requires
said_in-s-requires g c = (search rules, keeps-detail c.args.f c.args.h c.args.v _ _ c.make-sort.ensures.written)

pub answer_of-requires : goal.answer_of-requires
answer_of-requires g c = λ w. let k = c.requires.0 (sort-inside c.args.f c.args.h c.args.v _ c.make-sort.ensures.sort w) in (k.columns-falling, k.rows-falling)

pub returns-clause-answer : goal.returns-clause-answer
returns-clause-answer g c = c.answer_of.ensures
    ∙ (ap (λ (t : Said). answer_said c.make-sort.result c.args.h c.args.v t) c.said_in-s.ensures
    ∙ answer-said c.args.f c.args.h c.args.v _ c.make-sort.result c.make-sort.ensures.sort c.make-sort.ensures.written)
