use Prim.Native.Nat.{◌+◌, ◌*◌, ◌/◌, ◌%◌}
use borrow.Author.Rules.{rules}
use mathlib.Core.Bool.{not, ◌&&◌, ◌||◌}
use mathlib.Core.List.{map}
use mathlib.Core.Path.{ap, sym, ◌∙◌}
use lib.IntN.{ℤ, pos}
use mir.Syntax.{w32}
use Rattle.std.proofs.lemmas.List.{get_or-map}
use Rattle.definitions.specs.Basics.{eq_z, minus}
use Rattle.definitions.proofs.Motions.{bits-same}
use Rattle.rules.proofs.Parts.{quadrant-zero, zero_within}
use Rattle.rules.proofs.unused_zero.Goals as goal

pub returns : goal.returns
returns g c =
    let words = map g.W.Word.value c.args.words.now in
    let reference = c.get.ensures.is ∙ sym (get_or-map g.W.Word.value c.args.words.now (5 + 2 * c.args.q + c.args.l) c.index-words-q.result (pos 0) (search rules)) in
    let u = bits-same w32 c.get.result (minus 1) (search rules) (search rules) ∙ ap (λ (z : ℤ). eq_z z (minus 1)) reference in
    let first = 13 + 32 * (c.args.q / 2) + 8 * (c.args.q % 2) + 2 * c.args.l in
    let z0 = zero_within words first c.all_within.ensures (search rules) (search rules) in
    let z1 = zero_within words (first + 4) c.all_within-2.ensures (search rules) (search rules) in
    let z2 = zero_within words (first + 16) c.all_within-3.ensures (search rules) (search rules) in
    let z3 = zero_within words (first + 20) c.all_within-4.ensures (search rules) (search rules) in
    (λ i. not (u i) || (((z0 i && z1 i) && z2 i) && z3 i)) ∙ quadrant-zero words c.args.q c.args.l (search rules)
