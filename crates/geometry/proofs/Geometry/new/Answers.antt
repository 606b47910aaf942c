use mathlib.Core.Path.{sym, subst, ◌∙◌}
use Rattle.definitions.specs.Accepted.{AcceptedAxes}
use Rattle.definitions.proofs.Accepted.{accepted-axes}
use Rattle.geometry.proofs.Geometry.new.Goals as goal

pub invariant_of-result : goal.invariant_of-result
invariant_of-result c =
    record { accepted = subst AcceptedAxes (sym c.axes_of.ensures) (accepted-axes c.args.n (sym c.verdict_on.ensures ∙ c.in_ok-verdict_on.was)) }
