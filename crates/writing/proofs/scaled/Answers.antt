use borrow.Author.Rules.{rules}
use mir.Facts.{to_z-of_z}
use mir.Syntax.{w32}
use mir.Val.{SFits}
use Rattle.word.proofs.Rounded.{reference-fits}
use Rattle.writing.proofs.Handed.{held-fits, scaled-read}
use Rattle.writing.proofs.scaled.Goals as goal

pub returns-clause-is : goal.returns-clause-is
returns-clause-is g c =
    let limit = g.W.Word.LIMIT in
    let within = g.met.W.Word.small in
    let h = c.args.s.horizontal in
    let v = c.args.s.vertical in
    let f0 : SFits w32 c.args.m.r0 = search rules in
    let f1 : SFits w32 c.args.m.r1 = search rules in
    let r0 = to_z-of_z f0 in
    let r1 = to_z-of_z f1 in
    let x0 = scaled-read limit within c.args.m.x0 c.requires.1.vectors.0.x h _ _ c.scaled.ensures c.get.ensures.is (search rules) in
    let y0 = scaled-read limit within c.args.m.y0 c.requires.1.vectors.0.y v _ _ c.scaled-2.ensures c.get-2.ensures.is (search rules) in
    let x1 = scaled-read limit within c.args.m.x1 c.requires.1.vectors.1.x h _ _ c.scaled-3.ensures c.get-3.ensures.is (search rules) in
    let y1 = scaled-read limit within c.args.m.y1 c.requires.1.vectors.1.y v _ _ c.scaled-4.ensures c.get-4.ensures.is (search rules) in
    λ i. record { list0 = record { reference = r0 i; x = x0 i; y = y0 i }; list1 = record { reference = r1 i; x = x1 i; y = y1 i } }

pub returns-clause-fits : goal.returns-clause-fits
returns-clause-fits g c =
    let bits = g.W.Word.BITS in
    let f0 : SFits w32 c.args.m.r0 = search rules in
    let f1 : SFits w32 c.args.m.r1 = search rules in
    let holds = g.met.W.Word.holds in
    record {
      r0 = held-fits bits c.args.m.r0 f0 (holds c.args.m.r0 (reference-fits c.args.m.r0 c.requires.1.referring.0));
      r1 = held-fits bits c.args.m.r1 f1 (holds c.args.m.r1 (reference-fits c.args.m.r1 c.requires.1.referring.1));
      x0 = held-fits bits c.get.result (search rules) c.get.ensures.fits;
      y0 = held-fits bits c.get-2.result (search rules) c.get-2.ensures.fits;
      x1 = held-fits bits c.get-3.result (search rules) c.get-3.ensures.fits;
      y1 = held-fits bits c.get-4.result (search rules) c.get-4.ensures.fits;
    }
