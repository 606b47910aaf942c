use Rattle.std.proofs.Common.{to_z-of_z}
use Rattle.quadrant.proofs.Ranks.{next_fits, rank_is}
use Rattle.quadrant.proofs.rank_of.Goals as goal

pub returns : goal.returns
returns c = rw (to_z-of_z c.ranges.r, to_z-of_z (next_fits c.args.r c.requires)) (rank_is c.args.r c.requires)
