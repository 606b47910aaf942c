use mathlib.Core.Path.{ap, ◌∙◌}
use Rattle.macroblock.proofs.Making.{inherited-written, writable}
use Rattle.macroblock.specs.Made.{fixed_with}
use Prim.Native.Nat.{ℕ}
use lib.IntN.{pos}
use Rattle.definitions.specs.Answer.{divided_by}
use Rattle.definitions.specs.Inheriting.{chosen, motion_at}
use Rattle.definitions.specs.Record.{laid_out}
use Rattle.motion.specs.ByValue.{quadrants_in}
use Rattle.motion.specs.Scales.{all_scaled}
use Rattle.macroblock.proofs.make_inherited.Goals as goal

pub write_made-requires : goal.write_made-requires
write_made-requires g c = (c.requires.3, c.requires.0, writable c.args.r.width c.args.r.across c.args.r.down _ c.args.r.readable c.args.set c.motions_made.result c.motions_made.ensures)

pub returns : goal.returns
returns g c =
    let m = all_scaled c.args.scales (quadrants_in c.motions_made.result) in
    c.write_made.ensures
    ∙ (ap (λ (d : ℕ). laid_out (divided_by (chosen m) (motion_at m) (pos d))) c.requires.2
    ∙ inherited-written (fixed_with c.args.r.width c.args.scales) c.args.r.across c.args.r.down _ c.requires.1 c.motions_made.ensures)
