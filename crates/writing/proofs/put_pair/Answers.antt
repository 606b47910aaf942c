use mathlib.Core.List.{[], ◌∷◌}
use mathlib.Core.Path.{ap, ◌∙◌}
use Rattle.std.specs.Prelude.{map}
use Rattle.definitions.proofs.Parts.{stored-all}
use Rattle.writing.proofs.Handed.{scaled-back}
use Rattle.writing.proofs.put_pair.Goals as goal

pub returns : goal.returns
returns g c =
    let limit = g.W.Word.LIMIT in
    let within = g.met.W.Word.small in
    let h = c.args.s.horizontal in
    let v = c.args.s.vertical in
    let w0 = scaled-back limit within c.args.a.x0 c.requires.2.vectors.0.x h _ c.scaled.ensures in
    let w1 = scaled-back limit within c.args.a.y0 c.requires.2.vectors.0.y v _ c.scaled-2.ensures in
    let w2 = scaled-back limit within c.args.a.x1 c.requires.2.vectors.1.x h _ c.scaled-3.ensures in
    let w3 = scaled-back limit within c.args.a.y1 c.requires.2.vectors.1.y v _ c.scaled-4.ensures in
    let w4 = scaled-back limit within c.args.b.x0 c.requires.3.vectors.0.x h _ c.scaled-5.ensures in
    let w5 = scaled-back limit within c.args.b.y0 c.requires.3.vectors.0.y v _ c.scaled-6.ensures in
    let w6 = scaled-back limit within c.args.b.x1 c.requires.3.vectors.1.x h _ c.scaled-7.ensures in
    let w7 = scaled-back limit within c.args.b.y1 c.requires.3.vectors.1.y v _ c.scaled-8.ensures in
    ap (map g.W.Word.value)
    (stored-all (c.scaled.result ∷ c.scaled-2.result ∷ c.scaled-3.result ∷ c.scaled-4.result ∷ c.scaled-5.result ∷ c.scaled-6.result ∷ c.scaled-7.result ∷ c.scaled-8.result ∷ []) c.args.out.now c.requires.0)
    ∙ (λ i. w0 i ∷ w1 i ∷ w2 i ∷ w3 i ∷ w4 i ∷ w5 i ∷ w6 i ∷ w7 i ∷ [])
