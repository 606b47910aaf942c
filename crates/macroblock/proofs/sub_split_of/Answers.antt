use borrow.Author.Rules.{rules}
use Rattle.macroblock.proofs.Saying.{sub-8x8, sub-8x4, sub-4x8, sub-4x4}
use Rattle.macroblock.proofs.sub_split_of.Goals as goal

pub returns-in-0 : goal.returns-in-0
returns-in-0 c = sub-8x8 c.args.word (search rules)

pub returns-in-1 : goal.returns-in-1
returns-in-1 c = sub-8x4 c.args.word (search rules)

pub returns-in-2 : goal.returns-in-2
returns-in-2 c = sub-4x8 c.args.word (search rules)

pub returns-in_default : goal.returns-in_default
returns-in_default c = sub-4x4 c.args.word (search rules) (search rules) (search rules)
