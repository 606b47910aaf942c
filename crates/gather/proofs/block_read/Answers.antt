use Rattle.std.proofs.Common.{map, ap, ◌∙◌}
use Rattle.motion.specs.ByValue.{motion_in}
use Rattle.gather.proofs.Places.{spot-read}
use Rattle.gather.proofs.block_read.Goals as goal

pub returns : goal.returns
returns g c = ap motion_in c.block_from.ensures ∙ rw (c.across_of.ensures, c.down_of.ensures) (spot-read c.args.width (map g.W.Word.value c.args.base.now) c.args.x c.args.y)
