use Rattle.definitions.proofs.Accepted.{inside-axis}
use Rattle.geometry.proofs.step.centre.Goals as goal

pub base_layer_centre-z-requires : goal.base_layer_centre-z-requires
base_layer_centre-z-requires c = rw c.high_layer_centre-c.ensures (inside-axis c.args.at.axis c.args.at.start.0 c.args.at.known.accepted c.requires)
