use Rattle.definitions.specs.Basics.{up_to}
use Rattle.details.proofs.Reading.{halves_are}
use Rattle.details.proofs.halves_of.Goals as goal

pub returns : goal.returns
unfolding up_to
returns c = halves_are c.args.x c.requires
