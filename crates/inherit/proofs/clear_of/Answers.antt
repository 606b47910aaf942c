use mathlib.Core.Path.{ap, sym, ◌∙◌}
use mathlib.Core.Bool.{not}
use native.Mathlib.Nat.{add-zero}
use Rattle.definitions.specs.Inheriting.{marked, clear_of}
use Rattle.definitions.proofs.Choices.{four_same}
use Rattle.inherit.proofs.clear_of.Goals as goal

pub returns : goal.returns
unfolding clear_of
returns c = four_same (ap not (c.is_marked.ensures ∙ ap (marked c.args.set) (sym (add-zero _)))) (ap not c.is_marked-2.ensures)
    (ap not c.is_marked-3.ensures) (ap not c.is_marked-4.ensures)
