use Rattle.definitions.specs.Inheriting.{zero_motion, filled}
use Rattle.definitions.proofs.Choices.{four_same}
use Rattle.motion.specs.ByValue.{zero_block, motion_in}
use Rattle.quadrant.proofs.Taking.{taken}
use Rattle.quadrant.proofs.fill.Goals as goal

pub returns : goal.returns
unfolding filled
returns c = four_same (taken motion_in c.args.m zero_block zero_motion c.source_of.ensures) (taken motion_in c.args.m zero_block zero_motion c.source_of-2.ensures)
    (taken motion_in c.args.m zero_block zero_motion c.source_of-3.ensures) (taken motion_in c.args.m zero_block zero_motion c.source_of-4.ensures)
