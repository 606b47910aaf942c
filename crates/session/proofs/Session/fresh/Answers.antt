use mathlib.Core.Path.{refl}
use Rattle.definitions.specs.Session.{fresh}
use Rattle.session.proofs.Values.{state-of-value}
use Rattle.session.proofs.Session.fresh.Goals as goal

pub returns-clause-state : goal.returns-clause-state
returns-clause-state c = state-of-value fresh refl
