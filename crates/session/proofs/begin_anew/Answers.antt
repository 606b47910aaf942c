use Rattle.session.proofs.Handing.{begin-wrong, begin-right}
use Rattle.session.proofs.begin_anew.Goals as goal

pub returns-in-Ok-clause-verdict : goal.returns-in-Ok-clause-verdict
returns-in-Ok-clause-verdict c = (begin-right c.args.s c.args.n c.requires c.in-Ok.ensures.accepted.0).0

pub returns-in-Ok-clause-session : goal.returns-in-Ok-clause-session
returns-in-Ok-clause-session c = (begin-right c.args.s c.args.n c.requires c.in-Ok.ensures.accepted.0).1

pub returns-in-Err-clause-verdict : goal.returns-in-Err-clause-verdict
returns-in-Err-clause-verdict c = (begin-wrong c.args.s c.args.n c.requires _ c.in-Err.ensures.refused).0

pub returns-in-Err-clause-session : goal.returns-in-Err-clause-session
returns-in-Err-clause-session c = (begin-wrong c.args.s c.args.n c.requires _ c.in-Err.ensures.refused).1
