use mathlib.Core.Path.{ap, sym, ◌∙◌}
use Rattle.definitions.specs.Answer.{without_motion}
use Rattle.macroblock.proofs.Making.{detail-word, made-inherited, made-intra, no-corner, ready-with, set_is}
use Rattle.macroblock.proofs.Single.{mostly-none}
use Rattle.macroblock.proofs.make_of_more.Goals as goal

pub returns-then-mostly_intra-clause-sort : goal.returns-then-mostly_intra-clause-sort
returns-then-mostly_intra-clause-sort g c =
    let ready = ready-with c.requires.0 c.args.r.now.readable c.args.r.now.low c.requires.1 c.requires.2 in
    (made-intra ready (set_is ready c.corners_of-c.ensures c.set_of-set.ensures) (sym c.mostly_intra.ensures ∙ c.if-mostly_intra.true) (c.write_unused.ensures ∙ ap (without_motion 0) (detail-word _ _ c.ranges.detail c.requires.3))).0

pub returns-then-mostly_intra-clause-written : goal.returns-then-mostly_intra-clause-written
returns-then-mostly_intra-clause-written g c =
    let ready = ready-with c.requires.0 c.args.r.now.readable c.args.r.now.low c.requires.1 c.requires.2 in
    (made-intra ready (set_is ready c.corners_of-c.ensures c.set_of-set.ensures) (sym c.mostly_intra.ensures ∙ c.if-mostly_intra.true) (c.write_unused.ensures ∙ ap (without_motion 0) (detail-word _ _ c.ranges.detail c.requires.3))).1

pub make_inherited-requires : goal.make_inherited-requires
make_inherited-requires g c =
    let ready = ready-with c.requires.0 c.args.r.now.readable c.args.r.now.low c.requires.1 c.requires.2 in
    (c.requires.0, set_is ready c.corners_of-c.ensures c.set_of-set.ensures, c.requires.3, c.requires.4)

pub returns-then-c-clause-sort : goal.returns-then-c-clause-sort
returns-then-c-clause-sort g c =
    let ready = ready-with c.requires.0 c.args.r.now.readable c.args.r.now.low c.requires.1 c.requires.2 in
    (made-inherited ready (set_is ready c.corners_of-c.ensures c.set_of-set.ensures) (sym c.mostly_intra.ensures ∙ c.if-mostly_intra.false) c.make_inherited.ensures).0

pub returns-then-c-clause-written : goal.returns-then-c-clause-written
returns-then-c-clause-written g c =
    let ready = ready-with c.requires.0 c.args.r.now.readable c.args.r.now.low c.requires.1 c.requires.2 in
    (made-inherited ready (set_is ready c.corners_of-c.ensures c.set_of-set.ensures) (sym c.mostly_intra.ensures ∙ c.if-mostly_intra.false) c.make_inherited.ensures).1

pub make_inherited-requires-2 : goal.make_inherited-requires-2
make_inherited-requires-2 g c =
    let ready = ready-with c.requires.0 c.args.r.now.readable c.args.r.now.low c.requires.1 c.requires.2 in
    (c.requires.0, no-corner ready c.corners_of-c.ensures c.if-c.false, c.requires.3, c.requires.4)

pub returns-clause-sort : goal.returns-clause-sort
returns-clause-sort g c =
    let ready = ready-with c.requires.0 c.args.r.now.readable c.args.r.now.low c.requires.1 c.requires.2 in
    (made-inherited ready (no-corner ready c.corners_of-c.ensures c.if-c.false) mostly-none c.make_inherited-2.ensures).0

pub returns-clause-written : goal.returns-clause-written
returns-clause-written g c =
    let ready = ready-with c.requires.0 c.args.r.now.readable c.args.r.now.low c.requires.1 c.requires.2 in
    (made-inherited ready (no-corner ready c.corners_of-c.ensures c.if-c.false) mostly-none c.make_inherited-2.ensures).1
