use Rattle.gather.proofs.Sets.{bit-is}
use Rattle.gather.proofs.bit_of.Goals as goal

pub returns : goal.returns
returns c = bit-is c.args.on
