use Rattle.session.proofs.Stages.{not-begun, wrong-numbers, right-numbers}
use Rattle.session.specs.Stage.{stage_of}
use mathlib.Core.Path.{sym, ap, ◌∙◌}
use Rattle.session.proofs.stage_of.Goals as goal

pub returns-in-Ok : goal.returns-in-Ok
returns-in-Ok c = c.stage_in.ensures ∙ right-numbers c.args.s c.if-s.true c.in-Ok.ensures.accepted.0 _ c.in-Ok.ensures.accepted.1

pub returns-in-Err : goal.returns-in-Err
returns-in-Err c = sym (ap stage_of (wrong-numbers c.args.s _ c.in-Err.ensures.refused))

pub returns : goal.returns
returns c = sym (ap stage_of (not-begun c.args.s c.if-s.false))
