use mathlib.Core.Bool.{false, and-false, ◌&&◌}
use mathlib.Core.List.{List, map}
use mathlib.Core.Path.{◌≡◌, sym, ap, subst, ◌∙◌}
use lib.IntN.{ℤ, pos}
use lib.ListN.{length-replicate}
use Rattle.std.proofs.lemmas.List.{map-id}
use Rattle.definitions.specs.declared.Answer.TheVariants.{Outside}
use Rattle.definitions.specs.declared.Axis.{Axis}
use Rattle.definitions.specs.Record.{narrow}
use Rattle.definitions.proofs.Choices.{no}
use Rattle.common.specs.declared.counts.Sort.{Sort}
use Rattle.common.specs.declared.counts.Sort.TheVariants.{Outside as SortOutside}
use Rattle.macroblock.specs.declared.AxisRead.{AxisRead}
use Rattle.macroblock.specs.declared.Fixed.{Fixed}
use Rattle.macroblock.specs.Made.{Makeable, answer_by, answer_for, basis_by, motions_inside, read_of, sort_by, sort_inside}
use Rattle.log_picture.proofs.answer_at.Goals as goal

-- outside nothing is made
outside : (f : Fixed) (h v : AxisRead) (base : List ℤ) → (h.inside && v.inside) ≡ false → Outside ≡ answer_by f h v base
unfolding answer_by sort_by
outside f h v base out =
    ap (λ (s : Sort). answer_for s (basis_by f h v base) (motions_inside f h.reads v.reads base)) (sym (no (sort_inside f h.reads v.reads base) SortOutside out))

pub answer-requires : goal.answer-requires
answer-requires c =
    let h = c.axis_read-h.ensures ∙ ap (λ (a : Axis). read_of a c.args.column) c.horizontal.ensures in (
      subst (λ (r : AxisRead). Makeable narrow c.args.fixed r c.args.v (map (λ x. x) c.args.base.words.now)) (sym h)
          (subst (λ (b : List ℤ). Makeable narrow c.args.fixed (read_of c.args.base.geometry.axes.horizontal c.args.column) c.args.v b) (sym (map-id c.args.base.words.now)) c.requires.1),
      length-replicate 78 (pos 0),
    )

pub returns-then-h : goal.returns-then-h
returns-then-h c =
    let h = c.axis_read-h.ensures ∙ ap (λ (a : Axis). read_of a c.args.column) c.horizontal.ensures in
    c.answer.ensures.answer ∙ (λ i. answer_by c.args.fixed (h i) c.args.v (map-id c.args.base.words.now i))

pub returns-else-h : goal.returns-else-h
returns-else-h c =
    let h = c.axis_read-h.ensures ∙ ap (λ (a : Axis). read_of a c.args.column) c.horizontal.ensures in
    outside c.args.fixed c.axis_read-h.result c.args.v c.args.base.words.now (ap (λ i. i && c.args.v.inside) c.if-h.false) ∙ ap (λ (r : AxisRead). answer_by c.args.fixed r c.args.v c.args.base.words.now) h

pub returns-else-v : goal.returns-else-v
returns-else-v c =
    let h = read_of c.args.base.geometry.axes.horizontal c.args.column in
    outside c.args.fixed h c.args.v c.args.base.words.now (ap (λ i. h.inside && i) c.if-v.false ∙ and-false h.inside)
