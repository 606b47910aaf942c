use borrow.Author.Rules.{rules}
use mir.Facts.{to_z-of_z}
use mir.Syntax.{w32}
use mir.Val.{SFits}
use Rattle.definitions.specs.Refusals.{size_right}
use Rattle.definitions.proofs.Choices.{both_true}
use Rattle.geometry.proofs.scaleds_right.Goals as goal

pub scaled_right-requires-2 : goal.scaled_right-requires-2
scaled_right-requires-2 c =
    let b : SFits w32 c.args.n.vertical.base = search rules in
    rw (to_z-of_z b) (both_true (size_right c.args.n.horizontal.base) _ c.requires).1
