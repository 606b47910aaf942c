use mathlib.Core.Path.{◌∙◌}
use mathlib.Core.Bool.{◌&&◌, and_assoc}
use borrow.Author.Rules.{rules}
use mir.Syntax.{w32}
use Rattle.definitions.specs.Basics.{eq_z}
use Rattle.definitions.proofs.Motions.{bits-same}
use Rattle.motion.specs.ByValue.{same_vectors_in}
use Rattle.split.proofs.same_vectors.Goals as goal

pub returns : goal.returns
unfolding same_vectors_in
returns c =
    let x0 = bits-same w32 c.args.p.x0 c.args.q.x0 (search rules) (search rules) in
    let y0 = bits-same w32 c.args.p.y0 c.args.q.y0 (search rules) (search rules) in
    let x1 = bits-same w32 c.args.p.x1 c.args.q.x1 (search rules) (search rules) in
    let y1 = bits-same w32 c.args.p.y1 c.args.q.y1 (search rules) (search rules) in
    (λ i. x0 i && y0 i && x1 i && y1 i) ∙ and_assoc (eq_z c.args.p.x0 c.args.q.x0 && eq_z c.args.p.y0 c.args.q.y0) (eq_z c.args.p.x1 c.args.q.x1) (eq_z c.args.p.y1 c.args.q.y1)
