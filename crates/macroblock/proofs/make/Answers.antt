use Rattle.std.proofs.Common.{rules}
use Rattle.macroblock.proofs.Making.{placed-in, placed-out}
use Rattle.macroblock.proofs.make.Goals as goal

pub make_of_one-requires : goal.make_of_one-requires
make_of_one-requires g c = (search rules, search rules, search rules, search rules, search rules, search rules)

pub returns-then-is_one-clause-sort : goal.returns-then-is_one-clause-sort
returns-then-is_one-clause-sort g c = (placed-in c.args.f c.args.h c.args.v _ c.if-inside.true c.make_of_one.ensures.sort c.make_of_one.ensures.written).0

pub returns-then-is_one-clause-written : goal.returns-then-is_one-clause-written
returns-then-is_one-clause-written g c = (placed-in c.args.f c.args.h c.args.v _ c.if-inside.true c.make_of_one.ensures.sort c.make_of_one.ensures.written).1

pub make_of_more-requires : goal.make_of_more-requires
make_of_more-requires g c = (search rules, search rules, search rules, search rules, search rules)

pub returns-then-inside-clause-sort : goal.returns-then-inside-clause-sort
returns-then-inside-clause-sort g c = (placed-in c.args.f c.args.h c.args.v _ c.if-inside.true c.make_of_more.ensures.sort c.make_of_more.ensures.written).0

pub returns-then-inside-clause-written : goal.returns-then-inside-clause-written
returns-then-inside-clause-written g c = (placed-in c.args.f c.args.h c.args.v _ c.if-inside.true c.make_of_more.ensures.sort c.make_of_more.ensures.written).1

pub returns-clause-sort : goal.returns-clause-sort
returns-clause-sort g c = (placed-out c.args.f c.args.h c.args.v _ c.if-inside.false c.write_unused.ensures).0

pub returns-clause-written : goal.returns-clause-written
returns-clause-written g c = (placed-out c.args.f c.args.h c.args.v _ c.if-inside.false c.write_unused.ensures).1
