use mathlib.Core.List.{[], ◌∷◌}
use mathlib.Core.Path.{◌≡◌, ◌∙◌}
use native.Mathlib.Omega.{arith}
use borrow.Author.Rules.{rules}
use lib.IntN.{pos}
use mir.Facts.{to_z_pos}
use mir.Syntax.{w8, w32}
use mir.Val.{Fits, to_z}
use Rattle.std.specs.Prelude.{map}
use Rattle.std.proofs.lemmas.List.{length-map}
use Rattle.writing.proofs.Handed.{five-put}
use Rattle.writing.proofs.put_types.Goals as goal

pub returns : goal.returns
returns g c =
    let f_kind : Fits w8 c.args.t.kind = search rules in
    let f_a : Fits w8 c.args.t.a = search rules in
    let f_b : Fits w8 c.args.t.b = search rules in
    let f_c : Fits w8 c.args.t.c = search rules in
    let f_d : Fits w8 c.args.t.d = search rules in
    let t0 : to_z w32 c.args.t.kind ≡ pos c.args.t.kind = to_z_pos w32 {n = c.args.t.kind} (omega (arith, f_kind)) in
    let t1 : to_z w32 c.args.t.a ≡ pos c.args.t.a = to_z_pos w32 {n = c.args.t.a} (omega (arith, f_a)) in
    let t2 : to_z w32 c.args.t.b ≡ pos c.args.t.b = to_z_pos w32 {n = c.args.t.b} (omega (arith, f_b)) in
    let t3 : to_z w32 c.args.t.c ≡ pos c.args.t.c = to_z_pos w32 {n = c.args.t.c} (omega (arith, f_c)) in
    let t4 : to_z w32 c.args.t.d ≡ pos c.args.t.d = to_z_pos w32 {n = c.args.t.d} (omega (arith, f_d)) in
    let value = g.W.Word.value in
    five-put (map value c.args.out.now) (map value c.put.new.out) (map value c.put-2.new.out) (map value c.put-3.new.out) (map value c.put-4.new.out) (map value c.put-5.new.out)
    _ _ _ _ _ (length-map c.args.out.now value ∙ c.requires) c.put.ensures c.put-2.ensures c.put-3.ensures c.put-4.ensures c.put-5.ensures
    ∙ (λ i. t0 i ∷ t1 i ∷ t2 i ∷ t3 i ∷ t4 i ∷ [])
