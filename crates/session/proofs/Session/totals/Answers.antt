use Rattle.session.proofs.Handing.{totals-nothing, totals-going, totals-over}
use Rattle.session.proofs.Session.totals.Goals as goal

pub returns-in-Nothing-clause-counts : goal.returns-in-Nothing-clause-counts
returns-in-Nothing-clause-counts c = (totals-nothing c.args.self c.stage_of.ensures c.in-Nothing.is).0

pub returns-in-Nothing-clause-session : goal.returns-in-Nothing-clause-session
returns-in-Nothing-clause-session c = (totals-nothing c.args.self c.stage_of.ensures c.in-Nothing.is).1.0

pub returns-in-Nothing-clause-made : goal.returns-in-Nothing-clause-made
returns-in-Nothing-clause-made c = (totals-nothing c.args.self c.stage_of.ensures c.in-Nothing.is).1.1

pub returns-in-Unfinished-clause-counts : goal.returns-in-Unfinished-clause-counts
returns-in-Unfinished-clause-counts c = (totals-going c.args.self c.stage_of.ensures c.in-Unfinished.is).0

pub returns-in-Unfinished-clause-session : goal.returns-in-Unfinished-clause-session
returns-in-Unfinished-clause-session c = (totals-going c.args.self c.stage_of.ensures c.in-Unfinished.is).1.0

pub returns-in-Unfinished-clause-made : goal.returns-in-Unfinished-clause-made
returns-in-Unfinished-clause-made c = (totals-going c.args.self c.stage_of.ensures c.in-Unfinished.is).1.1

pub returns-in-Finished-clause-counts : goal.returns-in-Finished-clause-counts
returns-in-Finished-clause-counts c = (totals-over c.args.self c.stage_of.ensures c.in-Finished.is).0

pub returns-in-Finished-clause-session : goal.returns-in-Finished-clause-session
returns-in-Finished-clause-session c = (totals-over c.args.self c.stage_of.ensures c.in-Finished.is).1.0

pub returns-in-Finished-clause-made : goal.returns-in-Finished-clause-made
returns-in-Finished-clause-made c = (totals-over c.args.self c.stage_of.ensures c.in-Finished.is).1.1
