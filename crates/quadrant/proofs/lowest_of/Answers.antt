use Rattle.quadrant.proofs.Ranks.{lowest-signed, lowest-fits, lowest-is}
use Rattle.quadrant.proofs.lowest_of.Goals as goal

pub overflow_cast-result : goal.overflow_cast-result
overflow_cast-result c = lowest-signed c.args.p c.args.q c.args.s c.args.t c.requires
    c.rank_of.ensures c.rank_of-2.ensures c.rank_of-3.ensures c.rank_of-4.ensures c.min-above.ensures c.min-below.ensures c.min.ensures

pub overflow_sub-result : goal.overflow_sub-result
overflow_sub-result c = lowest-fits c.args.p c.args.q c.args.s c.args.t c.requires
    c.rank_of.ensures c.rank_of-2.ensures c.rank_of-3.ensures c.rank_of-4.ensures c.min-above.ensures c.min-below.ensures c.min.ensures

pub returns : goal.returns
returns c = lowest-is c.args.p c.args.q c.args.s c.args.t c.requires
    c.rank_of.ensures c.rank_of-2.ensures c.rank_of-3.ensures c.rank_of-4.ensures c.min-above.ensures c.min-below.ensures c.min.ensures
