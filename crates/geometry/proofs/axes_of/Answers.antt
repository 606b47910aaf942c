use Rattle.definitions.proofs.Accepted.{accepted-numbers}
use Rattle.geometry.proofs.Verdicts.{none-negative}
use Rattle.geometry.proofs.axes_of.Goals as goal

pub axis_of-requires : goal.axis_of-requires
axis_of-requires c = none-negative (accepted-numbers c.args.n c.requires).0

pub axis_of-requires-2 : goal.axis_of-requires-2
axis_of-requires-2 c = none-negative (accepted-numbers c.args.n c.requires).1
