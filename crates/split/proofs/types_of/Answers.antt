use Rattle.motion.specs.ByValue.{quadrants_in}
use Rattle.split.proofs.Choosing.{chosen-quarters, chosen-whole}
use Rattle.split.proofs.types_of.Goals as goal

pub returns-then-a-b-eq0 : goal.returns-then-a-b-eq0
returns-then-a-b-eq0 c = chosen-whole (quadrants_in c.args.m) c.sub_type_of-a.result c.sub_type_of-b.result c.sub_type_of-c.result c.sub_type_of-d.result c.sub_type_of-a.ensures.0 c.sub_type_of-b.ensures.0 c.sub_type_of-c.ensures.0 c.sub_type_of-d.ensures.0
    c.type_of-kind.result c.if-a-b-eq0.true c.type_of-kind.ensures.0

pub returns-else-a-b-eq0 : goal.returns-else-a-b-eq0
returns-else-a-b-eq0 c = chosen-quarters (quadrants_in c.args.m) c.sub_type_of-a.result c.sub_type_of-b.result c.sub_type_of-c.result c.sub_type_of-d.result c.sub_type_of-a.ensures.0 c.sub_type_of-b.ensures.0 c.sub_type_of-c.ensures.0 c.sub_type_of-d.ensures.0
    c.if-a-b-eq0.false
