use Rattle.std.proofs.Common.{rules}
use Rattle.gather.proofs.Places.{corners-readable}
use Rattle.details.proofs.details_of.Goals as goal

pub reads_detail-a-requires : goal.reads_detail-a-requires
reads_detail-a-requires g c = search (rules, corners-readable _ _ _ _ _ c.args.r.now.readable)

pub reads_detail-b-requires : goal.reads_detail-b-requires
reads_detail-b-requires g c = search (rules, corners-readable _ _ _ _ _ c.args.r.now.readable)

pub reads_detail-c-requires : goal.reads_detail-c-requires
reads_detail-c-requires g c = search (rules, corners-readable _ _ _ _ _ c.args.r.now.readable)

pub reads_detail-d-requires : goal.reads_detail-d-requires
reads_detail-d-requires g c = search (rules, corners-readable _ _ _ _ _ c.args.r.now.readable)
