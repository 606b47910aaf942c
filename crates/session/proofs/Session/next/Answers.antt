use Rattle.session.proofs.Handing.{next-nothing, next-after, next-on, next_small}
use Rattle.session.proofs.Session.next.Goals as goal

pub advance-requires : goal.advance-requires
advance-requires c = (next_small c.args.self c.stage_of.ensures c.in-Unfinished.is).0

pub returns-in-Nothing-clause-reply : goal.returns-in-Nothing-clause-reply
returns-in-Nothing-clause-reply c = (next-nothing c.args.self c.stage_of.ensures c.args.base.now c.args.out.now c.in-Nothing.is _ c.refused.ensures).0

pub returns-in-Nothing-clause-words : goal.returns-in-Nothing-clause-words
returns-in-Nothing-clause-words c = (next-nothing c.args.self c.stage_of.ensures c.args.base.now c.args.out.now c.in-Nothing.is _ c.refused.ensures).1.0

pub returns-in-Nothing-clause-session : goal.returns-in-Nothing-clause-session
returns-in-Nothing-clause-session c = (next-nothing c.args.self c.stage_of.ensures c.args.base.now c.args.out.now c.in-Nothing.is _ c.refused.ensures).1.1.0

pub returns-in-Nothing-clause-demand3 : goal.returns-in-Nothing-clause-demand3
returns-in-Nothing-clause-demand3 c = (next-nothing c.args.self c.stage_of.ensures c.args.base.now c.args.out.now c.in-Nothing.is _ c.refused.ensures).1.1.1

pub returns-in-Unfinished-clause-reply : goal.returns-in-Unfinished-clause-reply
returns-in-Unfinished-clause-reply c = (next-on c.args.self c.stage_of.ensures c.args.base.now c.args.out.now c.in-Unfinished.is _ _ _ c.upsample_macroblock-reply.ensures.reply c.upsample_macroblock-reply.ensures.words c.advance.ensures).0

pub returns-in-Unfinished-clause-words : goal.returns-in-Unfinished-clause-words
returns-in-Unfinished-clause-words c = (next-on c.args.self c.stage_of.ensures c.args.base.now c.args.out.now c.in-Unfinished.is _ _ _ c.upsample_macroblock-reply.ensures.reply c.upsample_macroblock-reply.ensures.words c.advance.ensures).1.0

pub returns-in-Unfinished-clause-session : goal.returns-in-Unfinished-clause-session
returns-in-Unfinished-clause-session c = (next-on c.args.self c.stage_of.ensures c.args.base.now c.args.out.now c.in-Unfinished.is _ _ _ c.upsample_macroblock-reply.ensures.reply c.upsample_macroblock-reply.ensures.words c.advance.ensures).1.1.0

pub returns-in-Unfinished-clause-demand3 : goal.returns-in-Unfinished-clause-demand3
returns-in-Unfinished-clause-demand3 c = (next-on c.args.self c.stage_of.ensures c.args.base.now c.args.out.now c.in-Unfinished.is _ _ _ c.upsample_macroblock-reply.ensures.reply c.upsample_macroblock-reply.ensures.words c.advance.ensures).1.1.1

pub returns-in-Finished-clause-reply : goal.returns-in-Finished-clause-reply
returns-in-Finished-clause-reply c = (next-after c.args.self c.stage_of.ensures c.args.base.now c.args.out.now c.in-Finished.is _ c.refused-in-Finished.ensures).0

pub returns-in-Finished-clause-words : goal.returns-in-Finished-clause-words
returns-in-Finished-clause-words c = (next-after c.args.self c.stage_of.ensures c.args.base.now c.args.out.now c.in-Finished.is _ c.refused-in-Finished.ensures).1.0

pub returns-in-Finished-clause-session : goal.returns-in-Finished-clause-session
returns-in-Finished-clause-session c = (next-after c.args.self c.stage_of.ensures c.args.base.now c.args.out.now c.in-Finished.is _ c.refused-in-Finished.ensures).1.1.0

pub returns-in-Finished-clause-demand3 : goal.returns-in-Finished-clause-demand3
returns-in-Finished-clause-demand3 c = (next-after c.args.self c.stage_of.ensures c.args.base.now c.args.out.now c.in-Finished.is _ c.refused-in-Finished.ensures).1.1.1
