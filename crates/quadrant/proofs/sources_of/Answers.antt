use Rattle.std.proofs.Common.{◌∙◌, to_z-of_z}
use Rattle.quadrant.proofs.Choosing.{chosen}
use Rattle.quadrant.proofs.sources_of.Goals as goal

pub returns-clause-a : goal.returns-clause-a
returns-clause-a c = (chosen c.args.p c.args.q c.args.s c.args.t c.requires
    (c.lowest_of-reference.ensures ∙ rw (to_z-of_z c.ranges.p, to_z-of_z c.ranges.q, to_z-of_z c.ranges.s, to_z-of_z c.ranges.t))
    c.either-a.ensures c.either-b.ensures c.either-c.ensures c.either-d.ensures
    c.either.ensures c.either-2.ensures c.either-3.ensures c.either-4.ensures).1.0

pub returns-clause-b : goal.returns-clause-b
returns-clause-b c = (chosen c.args.p c.args.q c.args.s c.args.t c.requires
    (c.lowest_of-reference.ensures ∙ rw (to_z-of_z c.ranges.p, to_z-of_z c.ranges.q, to_z-of_z c.ranges.s, to_z-of_z c.ranges.t))
    c.either-a.ensures c.either-b.ensures c.either-c.ensures c.either-d.ensures
    c.either.ensures c.either-2.ensures c.either-3.ensures c.either-4.ensures).1.1.0

pub returns-clause-c : goal.returns-clause-c
returns-clause-c c = (chosen c.args.p c.args.q c.args.s c.args.t c.requires
    (c.lowest_of-reference.ensures ∙ rw (to_z-of_z c.ranges.p, to_z-of_z c.ranges.q, to_z-of_z c.ranges.s, to_z-of_z c.ranges.t))
    c.either-a.ensures c.either-b.ensures c.either-c.ensures c.either-d.ensures
    c.either.ensures c.either-2.ensures c.either-3.ensures c.either-4.ensures).1.1.1.0

pub returns-clause-d : goal.returns-clause-d
returns-clause-d c = (chosen c.args.p c.args.q c.args.s c.args.t c.requires
    (c.lowest_of-reference.ensures ∙ rw (to_z-of_z c.ranges.p, to_z-of_z c.ranges.q, to_z-of_z c.ranges.s, to_z-of_z c.ranges.t))
    c.either-a.ensures c.either-b.ensures c.either-c.ensures c.either-d.ensures
    c.either.ensures c.either-2.ensures c.either-3.ensures c.either-4.ensures).1.1.1.1
