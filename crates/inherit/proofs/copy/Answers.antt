use mathlib.Core.Bool.{Bool}
use mathlib.Core.List.{List, []}
use mathlib.Core.Path.{ap, ◌∙◌}
use lib.ListN.{get_or}
use Rattle.definitions.specs.Inheriting.{copied}
use Rattle.definitions.proofs.Choices.{four_same}
use Rattle.motion.specs.ByValue.{motions_in, quadrants_in}
use Rattle.quadrant.proofs.Taking.{taken}
use Rattle.inherit.proofs.Copying.{copied_all}
use Rattle.inherit.proofs.copy.Goals as goal

pub returns-then-live : goal.returns-then-live
returns-then-live c = copied_all c.live_of-live.result (λ q. motions_in (get_or c.args.m q [])) c.if-live.true
    ∙ ap (λ (live : List Bool). copied live (quadrants_in c.args.m)) c.live_of-live.ensures

pub returns : goal.returns
unfolding copied
returns c = four_same (taken motions_in c.args.m [] [] c.copied_from.ensures) (taken motions_in c.args.m [] [] c.copied_from-2.ensures)
    (taken motions_in c.args.m [] [] c.copied_from-3.ensures) (taken motions_in c.args.m [] [] c.copied_from-4.ensures)
    ∙ ap (λ (live : List Bool). copied live (quadrants_in c.args.m)) c.live_of-live.ensures
