use Rattle.std.proofs.Common.{false, ◌||◌, get_or, ◌∙◌}
use Rattle.std.proofs.Math.Bool.{or_assoc}
use Rattle.definitions.specs.Basics.{some_of}
use Rattle.inherit.proofs.some_of.Goals as goal

pub returns : goal.returns
unfolding some_of
returns c =
    let a = get_or c.args.b 0 false in
    let b = get_or c.args.b 1 false in
    let d = get_or c.args.b 2 false in
    let e = get_or c.args.b 3 false in
    or_assoc (a || b) d e ∙ or_assoc a b (d || e)
