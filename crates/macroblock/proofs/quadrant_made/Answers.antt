use mathlib.Core.Path.{sym, ap, subst, ◌∙◌}
use mathlib.Core.List.{List}
use Rattle.motion.specs.declared.BlockMotion.{BlockMotion}
use Rattle.definitions.specs.Inheriting.{filled, merged}
use Rattle.motion.specs.ByValue.{AllReferring, motions_in}
use Rattle.quadrant.specs.Merging.{AllEmpty}
use Rattle.macroblock.proofs.Motions.{filled-mergeable, made-clear, made_plain}
use Rattle.macroblock.proofs.quadrant_made.Goals as goal

pub returns-then-is_plain : goal.returns-then-is_plain
returns-then-is_plain g c =
    let p = sym c.is_plain.ensures ∙ c.if-is_plain.true in
    ap motions_in c.quadrant_read.ensures ∙ made_plain _ c.args.x0 c.args.x1 c.args.y0 c.args.y1 c.requires.0 c.args.clear p (c.requires.1 p)

pub merge-requires : goal.merge-requires
merge-requires g c =
    let e = sym c.quadrant_read-then-clear.ensures in
    (subst (λ (m : List BlockMotion). AllEmpty (motions_in m)) e c.requires.0.empty, subst AllReferring e c.requires.0.referring)

pub returns-then-clear : goal.returns-then-clear
returns-then-clear g c = c.merge.ensures
    ∙ (ap (λ (m : List BlockMotion). merged (motions_in m)) c.quadrant_read-then-clear.ensures
    ∙ made-clear _ c.args.x0 c.args.x1 c.args.y0 c.args.y1 c.requires.0 c.args.clear c.if-clear.true)

pub merge-requires-2 : goal.merge-requires-2
merge-requires-2 g c = filled-mergeable _ c.args.x0 c.args.x1 c.args.y0 c.args.y1 c.requires.0 c.args.clear c.fill.result
    (c.fill.ensures ∙ ap (λ (m : List BlockMotion). filled c.args.clear (motions_in m)) c.quadrant_read-2.ensures)
