use Prim.Native.Nat.{◌+◌, ◌*◌, ◌-◌}
use native.Mathlib.Omega.{arith}
use Rattle.motion.specs.ByValue.{motions_in}
use Rattle.writing.specs.Words.{quadrant_scaled}
use Rattle.writing.proofs.Placed.{quadrant-mapped}
use Rattle.writing.proofs.put_quadrant.Goals as goal

pub returns : goal.returns
returns g c = quadrant-mapped g.W.Word.value (quadrant_scaled c.args.s (motions_in c.args.m)) c.args.out.now c.args.q c.args.i c.requires.0 c.requires.1 c.requires.2
    c.put_references.new.out c.put_pair.new.out c.put_pair-2.new.out
    (5 + 2 * c.args.q + 2 - (5 + 2 * c.args.q)) (13 + 4 * c.args.i + 8 - (13 + 4 * c.args.i)) (13 + 4 * (c.args.i + 4) + 8 - (13 + 4 * (c.args.i + 4)))
    c.put_references.ensures c.put_pair.ensures c.put_pair-2.ensures
    (omega arith) (omega arith) (omega arith)
