use Rattle.session.proofs.Handing.{free-nothing, free-over, begin-busy}
use Rattle.session.proofs.Session.begin.Goals as goal

pub begin_anew-requires : goal.begin_anew-requires
begin_anew-requires c = free-nothing c.args.self c.stage_of.ensures c.in-Nothing.is

pub begin_anew-requires-in-Finished : goal.begin_anew-requires-in-Finished
begin_anew-requires-in-Finished c = free-over c.args.self c.stage_of.ensures c.in-Finished.is

pub returns-in-Unfinished-clause-verdict : goal.returns-in-Unfinished-clause-verdict
returns-in-Unfinished-clause-verdict c = (begin-busy c.args.self c.stage_of.ensures c.in-Unfinished.is c.args.n _ c.refused.ensures).0

pub returns-in-Unfinished-clause-session : goal.returns-in-Unfinished-clause-session
returns-in-Unfinished-clause-session c = (begin-busy c.args.self c.stage_of.ensures c.in-Unfinished.is c.args.n _ c.refused.ensures).1
