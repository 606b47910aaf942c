use Prim.Native.Nat.{◌+◌}
use mathlib.Core.List.{map}
use mathlib.Core.Path.{ap, sym, ◌∙◌}
use lib.IntN.{ℤ, pos}
use mir.Syntax.{w32}
use Rattle.std.proofs.lemmas.List.{get_or-map}
use Rattle.definitions.specs.Basics.{eq_z}
use Rattle.definitions.proofs.Motions.{bits-same}
use Rattle.scan.proofs.Quarters.{quadrant-alike}
use borrow.Author.Rules.{rules}
use Rattle.scan.proofs.same_in_quadrant.Goals as goal

pub returns : goal.returns
returns g c =
    let sub = c.get-sub.ensures.is ∙ sym (get_or-map g.W.Word.value c.args.words.now (1 + c.args.q) c.index-words-q.result (pos 0) (search rules)) in
    quadrant-alike (map g.W.Word.value c.args.words.now) c.args.q (search rules)
    c.same_vectors.ensures c.same_vectors-2.ensures c.same_vectors-3.ensures c.same_vectors-4.ensures
    (bits-same w32 c.get-sub.result (pos 0) (search rules) (search rules) ∙ ap (λ (z : ℤ). eq_z z (pos 0)) sub)
    (bits-same w32 c.get-sub.result (pos 1) (search rules) (search rules) ∙ ap (λ (z : ℤ). eq_z z (pos 1)) sub)
    (bits-same w32 c.get-sub.result (pos 2) (search rules) (search rules) ∙ ap (λ (z : ℤ). eq_z z (pos 2)) sub)
