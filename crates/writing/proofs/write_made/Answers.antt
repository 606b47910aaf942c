use mathlib.Core.List.{List, ◌++◌}
use mathlib.Core.Path.{◌≡◌, ap, ◌∙◌}
use borrow.Author.Rules.{rules}
use native.Mathlib.Omega.{arith}
use lib.IntN.{ℤ}
use lib.ListN.{drop, set}
use mir.Val.{to_z}
use mir.Facts.{to_z_pos}
use mir.Syntax.{w32}
use Rattle.std.specs.Prelude.{map}
use Rattle.std.proofs.lemmas.List.{length-map}
use Rattle.definitions.specs.Answer.{divided_by}
use Rattle.definitions.specs.Record.{laid_out}
use Rattle.definitions.specs.Inheriting.{chosen, motion_at}
use Rattle.motion.specs.ByValue.{quadrants_in}
use Rattle.motion.specs.Scales.{all_scaled}
use Rattle.writing.proofs.Assembled.{assembled-after, made-of}
use Rattle.writing.proofs.Placed.{behind-mapped}
use Rattle.writing.proofs.write_made.Goals as goal

pub put-requires : goal.put-requires
put-requires g c = (search rules, search (rules, g.met.W.Word.holds, c.ranges.detail))

pub returns : goal.returns
unfolding all_scaled
returns g c =
    let value = g.W.Word.value in
    let m = quadrants_in c.args.m in
    let whole : (z : ℤ) → set (map value c.put_types.new.out ++ drop 5 (map value c.put_quadrant-4.new.out)) 77 z ≡ laid_out (divided_by (chosen (all_scaled c.args.s m)) (motion_at (all_scaled c.args.s m)) z) =
    λ z. assembled-after (all_scaled c.args.s m) (map value c.args.out.now) (length-map c.args.out.now value ∙ c.requires.0)
    (map value c.put_quadrant.new.out) (map value c.put_quadrant-2.new.out) (map value c.put_quadrant-3.new.out) (map value c.put_quadrant-4.new.out)
    c.put_quadrant.ensures c.put_quadrant-2.ensures c.put_quadrant-3.ensures c.put_quadrant-4.ensures
    c.types_of-t.result (map value c.put_types.new.out) z c.put_types.ensures
    ∙ made-of c.args.s c.requires.1 m c.types_of-t.result z c.types_of-t.ensures in
    let made = all_scaled c.args.s m in
    c.put.ensures ∙ ap (λ (l : List ℤ). set l 77 (to_z w32 c.args.detail)) (behind-mapped value c.put_types.new.out c.put_quadrant-4.new.out 5)
    ∙ whole _ ∙ ap (λ (z : ℤ). laid_out (divided_by (chosen made) (motion_at made) z)) (to_z_pos w32 {n = c.args.detail} (omega (arith, c.ranges.detail)))
