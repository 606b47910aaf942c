use Prim.Native.Nat.{◌≤◌}
use mathlib.Core.Path.{sym, subst}
use native.Mathlib.Omega.{arith}
use mir.Val.{SFits}
use Rattle.definitions.specs.Record.{wide}
use Rattle.records.proofs.Limits.{low-is, high_is, upper_fits}
use Rattle.rules.proofs.Parts.{lesser_fits}
use Rattle.rules.proofs.vectors_within.Goals as goal

pub of-requires : goal.of-requires
of-requires g c =
    let most : c.args.limit ≤ wide = omega (arith, c.requires.1, g.met.W.Word.small) in
    subst (SFits g.W.Word.BITS) (sym (low-is c.args.limit most)) (lesser_fits g.W.Word.BITS c.args.limit g.W.Word.LIMIT c.requires.1 g.met.W.Word.room)

pub of-requires-2 : goal.of-requires-2
of-requires-2 g c =
    let most : c.args.limit ≤ wide = omega (arith, c.requires.1, g.met.W.Word.small) in
    subst (SFits g.W.Word.BITS) (sym (high_is c.args.limit most c.requires.0))
    (upper_fits g.W.Word.BITS c.args.limit (lesser_fits g.W.Word.BITS c.args.limit g.W.Word.LIMIT c.requires.1 g.met.W.Word.room))
