-- The range of vector words that rule 5 of "A motion record" allows.
use Rattle.std.specs.Prelude.{ℕ, ◌≡◌, true}
use Rattle.definitions.specs.declared.Motion.{Motion}
use Rattle.definitions.specs.declared.Prediction.{Prediction}
use Rattle.definitions.specs.Record.{fits}

pub record InRange (limit : ℕ) (p : Prediction) : Type 0 where
  pub x : fits limit p.x ≡ true
  pub y : fits limit p.y ≡ true

-- of a motion's both lists
abbrev pub BothInRange : ℕ → Motion → Type 0
BothInRange limit m = InRange limit m.list0 × InRange limit m.list1
