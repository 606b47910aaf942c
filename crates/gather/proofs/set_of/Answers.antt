use Rattle.gather.proofs.Sets.{set-by-rows}
use Rattle.gather.proofs.set_of.Goals as goal

pub returns : goal.returns
returns c = rw (c.beside_of-i.ensures.is, c.beside_of-j.ensures.is, c.beside_of-k.ensures.is, c.row_set-upper.ensures.0, c.row_set-lower.ensures.0) (set-by-rows c.args.c c.args.across c.args.down)
