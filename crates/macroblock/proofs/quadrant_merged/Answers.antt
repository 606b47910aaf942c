use mathlib.Core.Path.{sym, ap, subst, ◌∙◌}
use mathlib.Core.List.{List}
use Rattle.motion.specs.declared.BlockMotion.{BlockMotion}
use Rattle.motion.specs.ByValue.{AllReferring, motions_in}
use Rattle.quadrant.specs.Merging.{AllEmpty}
use Rattle.macroblock.proofs.Motions.{plain-merged}
use Rattle.macroblock.proofs.quadrant_merged.Goals as goal

pub returns-then-is_plain : goal.returns-then-is_plain
returns-then-is_plain g c = ap motions_in c.quadrant_read.ensures
    ∙ plain-merged _ c.args.x0 c.args.x1 c.args.y0 c.args.y1 c.requires (sym c.is_plain.ensures ∙ c.if-is_plain.true)

pub merge-requires : goal.merge-requires
merge-requires g c =
    let e = sym c.quadrant_read-2.ensures in
    (subst (λ (m : List BlockMotion). AllEmpty (motions_in m)) e c.requires.empty, subst AllReferring e c.requires.referring)
