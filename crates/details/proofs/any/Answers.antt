use Rattle.details.proofs.Masks.{bit-where-not}
use Rattle.details.proofs.any.Goals as goal

pub returns : goal.returns
returns c = bit-where-not _
