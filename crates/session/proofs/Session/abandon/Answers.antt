use Rattle.session.proofs.Handing.{abandon-nothing, abandon-over, abandon-going}
use Rattle.session.proofs.Session.abandon.Goals as goal

pub returns-in-Nothing-clause-verdict : goal.returns-in-Nothing-clause-verdict
returns-in-Nothing-clause-verdict c = (abandon-nothing c.args.self c.stage_of.ensures c.in-Nothing.is _ c.refused.ensures).0

pub returns-in-Nothing-clause-session : goal.returns-in-Nothing-clause-session
returns-in-Nothing-clause-session c = (abandon-nothing c.args.self c.stage_of.ensures c.in-Nothing.is _ c.refused.ensures).1

pub returns-in-Unfinished-clause-verdict : goal.returns-in-Unfinished-clause-verdict
returns-in-Unfinished-clause-verdict c = (abandon-going c.args.self c.stage_of.ensures c.in-Unfinished.is _ c.fresh-anew.ensures.value).0

pub returns-in-Unfinished-clause-session : goal.returns-in-Unfinished-clause-session
returns-in-Unfinished-clause-session c = (abandon-going c.args.self c.stage_of.ensures c.in-Unfinished.is _ c.fresh-anew.ensures.value).1

pub returns-in-Finished-clause-verdict : goal.returns-in-Finished-clause-verdict
returns-in-Finished-clause-verdict c = (abandon-over c.args.self c.stage_of.ensures c.in-Finished.is _ c.refused-in-Finished.ensures).0

pub returns-in-Finished-clause-session : goal.returns-in-Finished-clause-session
returns-in-Finished-clause-session c = (abandon-over c.args.self c.stage_of.ensures c.in-Finished.is _ c.refused-in-Finished.ensures).1
