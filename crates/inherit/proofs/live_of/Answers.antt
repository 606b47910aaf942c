use mathlib.Core.Path.{◌∙◌, ap}
use Rattle.definitions.specs.Basics.{some_of}
use Rattle.definitions.specs.Inheriting.{live_of}
use Rattle.definitions.proofs.Choices.{four_same}
use Rattle.inherit.proofs.live_of.Goals as goal

pub returns : goal.returns
unfolding live_of
returns c = four_same (c.some_of.ensures ∙ ap some_of c.clear_of.ensures) (c.some_of-2.ensures ∙ ap some_of c.clear_of-2.ensures)
    (c.some_of-3.ensures ∙ ap some_of c.clear_of-3.ensures) (c.some_of-4.ensures ∙ ap some_of c.clear_of-4.ensures)
