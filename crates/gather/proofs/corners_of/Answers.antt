use Rattle.std.proofs.Common.{rules}
use Rattle.gather.proofs.Places.{corners-readable}
use Rattle.gather.proofs.corners_of.Goals as goal

pub reads_intra-requires : goal.reads_intra-requires
reads_intra-requires g c = search (rules, corners-readable _ _ _ _ _ c.args.r.now.readable)

pub reads_intra-requires-2 : goal.reads_intra-requires-2
reads_intra-requires-2 g c = search (rules, corners-readable _ _ _ _ _ c.args.r.now.readable)

pub reads_intra-requires-3 : goal.reads_intra-requires-3
reads_intra-requires-3 g c = search (rules, corners-readable _ _ _ _ _ c.args.r.now.readable)

pub reads_intra-requires-4 : goal.reads_intra-requires-4
reads_intra-requires-4 g c = search (rules, corners-readable _ _ _ _ _ c.args.r.now.readable)
