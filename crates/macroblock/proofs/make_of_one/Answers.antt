use mathlib.Core.Bool.{◌&&◌, ◌||◌}
use mathlib.Core.Path.{ap, sym, ◌∙◌}
use lib.IntN.{ℤ}
use Rattle.definitions.specs.Answer.{without_motion}
use Rattle.definitions.specs.Record.{all_one, laid_out}
use Rattle.motion.specs.ByValue.{motion_in}
use Rattle.motion.specs.Scales.{motion_scaled}
use Rattle.macroblock.proofs.Making.{detail-word, made-inherited, made-intra, read-writable, ready-with}
use Rattle.macroblock.proofs.Single.{first-readable, mostly-all, mostly-none, one-read, set_all, set-none, whole-written}
use Rattle.macroblock.proofs.make_of_one.Goals as goal

pub reads_intra-requires : goal.reads_intra-requires
reads_intra-requires g c =
    let ready = ready-with c.requires.0 c.args.r.now.readable c.args.r.now.low c.requires.1 c.requires.2 in
    (first-readable ready c.requires.3, c.args.r.now.low)

pub returns-then-reads_intra-clause-sort : goal.returns-then-reads_intra-clause-sort
returns-then-reads_intra-clause-sort g c =
    let ready = ready-with c.requires.0 c.args.r.now.readable c.args.r.now.low c.requires.1 c.requires.2 in
    (made-intra ready (set_all ready c.requires.3 (sym c.reads_intra.ensures ∙ c.if-reads_intra.true)) mostly-all (c.write_unused.ensures ∙ ap (without_motion 0) (detail-word _ _ c.ranges.detail c.requires.4))).0

pub returns-then-reads_intra-clause-written : goal.returns-then-reads_intra-clause-written
returns-then-reads_intra-clause-written g c =
    let ready = ready-with c.requires.0 c.args.r.now.readable c.args.r.now.low c.requires.1 c.requires.2 in
    (made-intra ready (set_all ready c.requires.3 (sym c.reads_intra.ensures ∙ c.if-reads_intra.true)) mostly-all (c.write_unused.ensures ∙ ap (without_motion 0) (detail-word _ _ c.ranges.detail c.requires.4))).1

pub reads_whole-requires : goal.reads_whole-requires
reads_whole-requires g c =
    let ready = ready-with c.requires.0 c.args.r.now.readable c.args.r.now.low c.requires.1 c.requires.2 in
    (first-readable ready c.requires.3, c.args.r.now.low)

pub reads_single-requires : goal.reads_single-requires
reads_single-requires g c =
    let ready = ready-with c.requires.0 c.args.r.now.readable c.args.r.now.low c.requires.1 c.requires.2 in
    (first-readable ready c.requires.3, c.args.r.now.low)

pub block_read-requires : goal.block_read-requires
block_read-requires g c =
    let ready = ready-with c.requires.0 c.args.r.now.readable c.args.r.now.low c.requires.1 c.requires.2 in
    (first-readable ready c.requires.3, c.args.r.now.low)

pub scaled-requires : goal.scaled-requires
scaled-requires g c =
    let ready = ready-with c.requires.0 c.args.r.now.readable c.args.r.now.low c.requires.1 c.requires.2 in
    (c.requires.0, read-writable _ _ _ _ _ (first-readable ready c.requires.3) c.block_read.ensures)

pub write_one-requires : goal.write_one-requires
write_one-requires g c = (c.requires.5, c.scaled.ensures.fits)

pub returns-then-reads_whole-quarter-clause-sort : goal.returns-then-reads_whole-quarter-clause-sort
returns-then-reads_whole-quarter-clause-sort g c =
    let ready = ready-with c.requires.0 c.args.r.now.readable c.args.r.now.low c.requires.1 c.requires.2 in
    let not-intra = sym c.reads_intra.ensures ∙ c.if-reads_intra.false in
    let w = sym c.reads_whole.ensures in
    let a = sym c.is_half.ensures in
    let b = sym c.is_half-2.ensures in
    let d = sym c.reads_single.ensures in
    let all = one-read ready c.requires.3 not-intra ((λ i. w i || ((a i && b i) && d i)) ∙ c.if-reads_whole-quarter.true) in
    (made-inherited ready (set-none ready c.requires.3 not-intra) mostly-none
    (c.write_one.ensures ∙ (ap (λ (d : ℤ). laid_out (all_one 1 (motion_in c.scaled.result) d)) (detail-word _ _ c.ranges.detail c.requires.4) ∙ whole-written ready c.requires.3 not-intra all (c.scaled.ensures.is ∙ ap (motion_scaled c.args.scales) c.block_read.ensures)))).0

pub returns-then-reads_whole-quarter-clause-written : goal.returns-then-reads_whole-quarter-clause-written
returns-then-reads_whole-quarter-clause-written g c =
    let ready = ready-with c.requires.0 c.args.r.now.readable c.args.r.now.low c.requires.1 c.requires.2 in
    let not-intra = sym c.reads_intra.ensures ∙ c.if-reads_intra.false in
    let w = sym c.reads_whole.ensures in
    let a = sym c.is_half.ensures in
    let b = sym c.is_half-2.ensures in
    let d = sym c.reads_single.ensures in
    let all = one-read ready c.requires.3 not-intra ((λ i. w i || ((a i && b i) && d i)) ∙ c.if-reads_whole-quarter.true) in
    (made-inherited ready (set-none ready c.requires.3 not-intra) mostly-none
    (c.write_one.ensures ∙ (ap (λ (d : ℤ). laid_out (all_one 1 (motion_in c.scaled.result) d)) (detail-word _ _ c.ranges.detail c.requires.4) ∙ whole-written ready c.requires.3 not-intra all (c.scaled.ensures.is ∙ ap (motion_scaled c.args.scales) c.block_read.ensures)))).1

pub make_inherited-requires : goal.make_inherited-requires
make_inherited-requires g c =
    let ready = ready-with c.requires.0 c.args.r.now.readable c.args.r.now.low c.requires.1 c.requires.2 in
    (c.requires.0, set-none ready c.requires.3 (sym c.reads_intra.ensures ∙ c.if-reads_intra.false), c.requires.4, c.requires.5)

pub returns-clause-sort : goal.returns-clause-sort
returns-clause-sort g c =
    let ready = ready-with c.requires.0 c.args.r.now.readable c.args.r.now.low c.requires.1 c.requires.2 in
    (made-inherited ready (set-none ready c.requires.3 (sym c.reads_intra.ensures ∙ c.if-reads_intra.false)) mostly-none c.make_inherited.ensures).0

pub returns-clause-written : goal.returns-clause-written
returns-clause-written g c =
    let ready = ready-with c.requires.0 c.args.r.now.readable c.args.r.now.low c.requires.1 c.requires.2 in
    (made-inherited ready (set-none ready c.requires.3 (sym c.reads_intra.ensures ∙ c.if-reads_intra.false)) mostly-none c.make_inherited.ensures).1
