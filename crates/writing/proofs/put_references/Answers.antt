use mathlib.Core.List.{[], ◌∷◌}
use mathlib.Core.Path.{◌∙◌}
use borrow.Author.Rules.{rules}
use mir.Facts.{to_z-of_z}
use mir.Syntax.{w32}
use mir.Val.{SFits}
use Rattle.std.specs.Prelude.{map}
use Rattle.std.proofs.lemmas.List.{length-map}
use Rattle.writing.proofs.Handed.{two-put}
use Rattle.writing.proofs.put_references.Goals as goal

pub returns : goal.returns
returns g c =
    let f0 : SFits w32 c.args.m.r0 = search rules in
    let f1 : SFits w32 c.args.m.r1 = search rules in
    let w0 = to_z-of_z f0 in
    let w1 = to_z-of_z f1 in
    let value = g.W.Word.value in
    two-put (map value c.args.out.now) (map value c.put.new.out) (map value c.put-2.new.out) _ _ (length-map c.args.out.now value ∙ c.requires.0) c.put.ensures c.put-2.ensures
    ∙ (λ i. w0 i ∷ w1 i ∷ [])
