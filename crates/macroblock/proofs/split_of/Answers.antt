use borrow.Author.Rules.{rules}
use Rattle.macroblock.proofs.Saying.{said-16x16, said-16x8, said-8x16, said-8x8}
use Rattle.macroblock.proofs.split_of.Goals as goal

pub returns-in-1 : goal.returns-in-1
returns-in-1 c = said-16x16 c.args.s (search rules)

pub returns-in-2 : goal.returns-in-2
returns-in-2 c = said-16x8 c.args.s (search rules)

pub returns-in-3 : goal.returns-in-3
returns-in-3 c = said-8x16 c.args.s (search rules)

pub returns-in_default : goal.returns-in_default
returns-in_default c = said-8x8 c.args.s (search rules) (search rules) (search rules) (search rules) (search rules) (search rules) (search rules)
