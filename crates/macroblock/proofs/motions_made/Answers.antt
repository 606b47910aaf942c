use mathlib.Core.List.{map}
use Prim.Native.Nat.{ℕ}
use mathlib.Core.Path.{ap, subst, sym, ◌∙◌}
use Rattle.definitions.specs.Inheriting.{filled, merged, resolved}
use Rattle.gather.specs.Reads.{gathered_by}
use Rattle.macroblock.specs.Quadrants.{Alike}
use Rattle.macroblock.proofs.Motions.{alike-0, alike-1, alike-2, alike-3, made-of-quadrants, merged-only, placed-0, placed-1, placed-2, placed-3, spots}
use Rattle.macroblock.proofs.motions_made.Goals as goal

pub quadrant_merged-a-requires : goal.quadrant_merged-a-requires
quadrant_merged-a-requires g c =
    let spotted = spots c.args.r.now.readable c.across_of-x0.ensures c.across_of-x1.ensures c.across_of-x2.ensures c.across_of-x3.ensures c.down_of-y0.ensures c.down_of-y1.ensures c.down_of-y2.ensures c.down_of-y3.ensures in
    (placed-0 spotted).mergeable

pub quadrant_merged-b-requires : goal.quadrant_merged-b-requires
quadrant_merged-b-requires g c =
    let spotted = spots c.args.r.now.readable c.across_of-x0.ensures c.across_of-x1.ensures c.across_of-x2.ensures c.across_of-x3.ensures c.down_of-y0.ensures c.down_of-y1.ensures c.down_of-y2.ensures c.down_of-y3.ensures in
    (placed-1 spotted).mergeable

pub quadrant_merged-c-requires : goal.quadrant_merged-c-requires
quadrant_merged-c-requires g c =
    let spotted = spots c.args.r.now.readable c.across_of-x0.ensures c.across_of-x1.ensures c.across_of-x2.ensures c.across_of-x3.ensures c.down_of-y0.ensures c.down_of-y1.ensures c.down_of-y2.ensures c.down_of-y3.ensures in
    (placed-2 spotted).mergeable

pub quadrant_merged-d-requires : goal.quadrant_merged-d-requires
quadrant_merged-d-requires g c =
    let spotted = spots c.args.r.now.readable c.across_of-x0.ensures c.across_of-x1.ensures c.across_of-x2.ensures c.across_of-x3.ensures c.down_of-y0.ensures c.down_of-y1.ensures c.down_of-y2.ensures c.down_of-y3.ensures in
    (placed-3 spotted).mergeable

pub returns-then-set-eq0 : goal.returns-then-set-eq0
returns-then-set-eq0 g c =
    let spotted = spots c.args.r.now.readable c.across_of-x0.ensures c.across_of-x1.ensures c.across_of-x2.ensures c.across_of-x3.ensures c.down_of-y0.ensures c.down_of-y1.ensures c.down_of-y2.ensures c.down_of-y3.ensures in
    merged-only c.args.r.now.width c.args.r.now.across c.args.r.now.down _
    (c.quadrant_merged-a.ensures ∙ ap merged (placed-0 spotted).is)
    (c.quadrant_merged-b.ensures ∙ ap merged (placed-1 spotted).is)
    (c.quadrant_merged-c.ensures ∙ ap merged (placed-2 spotted).is)
    (c.quadrant_merged-d.ensures ∙ ap merged (placed-3 spotted).is)
    ∙ ap (λ (n : ℕ). resolved n (gathered_by c.args.r.now.width c.args.r.now.across c.args.r.now.down (map g.W.Word.value c.args.r.now.base.now))) (sym c.if-set-eq0.true)

pub quadrant_made-a-requires : goal.quadrant_made-a-requires
quadrant_made-a-requires g c =
    let spotted = spots c.args.r.now.readable c.across_of-x0.ensures c.across_of-x1.ensures c.across_of-x2.ensures c.across_of-x3.ensures c.down_of-y0.ensures c.down_of-y1.ensures c.down_of-y2.ensures c.down_of-y3.ensures in
    ((placed-0 spotted).mergeable, λ p. subst Alike (sym c.clear_of.ensures) (alike-0 c.args.r.now.width c.args.r.now.across c.args.r.now.down _ c.requires spotted p))

pub quadrant_made-b-requires : goal.quadrant_made-b-requires
quadrant_made-b-requires g c =
    let spotted = spots c.args.r.now.readable c.across_of-x0.ensures c.across_of-x1.ensures c.across_of-x2.ensures c.across_of-x3.ensures c.down_of-y0.ensures c.down_of-y1.ensures c.down_of-y2.ensures c.down_of-y3.ensures in
    ((placed-1 spotted).mergeable, λ p. subst Alike (sym c.clear_of-2.ensures) (alike-1 c.args.r.now.width c.args.r.now.across c.args.r.now.down _ c.requires spotted p))

pub quadrant_made-c-requires : goal.quadrant_made-c-requires
quadrant_made-c-requires g c =
    let spotted = spots c.args.r.now.readable c.across_of-x0.ensures c.across_of-x1.ensures c.across_of-x2.ensures c.across_of-x3.ensures c.down_of-y0.ensures c.down_of-y1.ensures c.down_of-y2.ensures c.down_of-y3.ensures in
    ((placed-2 spotted).mergeable, λ p. subst Alike (sym c.clear_of-3.ensures) (alike-2 c.args.r.now.width c.args.r.now.across c.args.r.now.down _ c.requires spotted p))

pub quadrant_made-d-requires : goal.quadrant_made-d-requires
quadrant_made-d-requires g c =
    let spotted = spots c.args.r.now.readable c.across_of-x0.ensures c.across_of-x1.ensures c.across_of-x2.ensures c.across_of-x3.ensures c.down_of-y0.ensures c.down_of-y1.ensures c.down_of-y2.ensures c.down_of-y3.ensures in
    ((placed-3 spotted).mergeable, λ p. subst Alike (sym c.clear_of-4.ensures) (alike-3 c.args.r.now.width c.args.r.now.across c.args.r.now.down _ c.requires spotted p))

pub returns : goal.returns
returns g c =
    let spotted = spots c.args.r.now.readable c.across_of-x0.ensures c.across_of-x1.ensures c.across_of-x2.ensures c.across_of-x3.ensures c.down_of-y0.ensures c.down_of-y1.ensures c.down_of-y2.ensures c.down_of-y3.ensures in
    made-of-quadrants c.args.r.now.width c.args.r.now.across c.args.r.now.down _ c.requires
    (c.quadrant_made-a.ensures ∙ (λ i. merged (filled (c.clear_of.ensures i) ((placed-0 spotted).is i))))
    (c.quadrant_made-b.ensures ∙ (λ i. merged (filled (c.clear_of-2.ensures i) ((placed-1 spotted).is i))))
    (c.quadrant_made-c.ensures ∙ (λ i. merged (filled (c.clear_of-3.ensures i) ((placed-2 spotted).is i))))
    (c.quadrant_made-d.ensures ∙ (λ i. merged (filled (c.clear_of-4.ensures i) ((placed-3 spotted).is i))))
    c.copy.ensures
