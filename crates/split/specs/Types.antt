-- Step 5 of "Inheriting" on four quadrants of four blocks by value: the type and the sub-types that a split says, and a record that says them.
use Rattle.std.specs.Prelude.{ℕ, ◌+◌, ◌<◌, List, [], ◌∷◌, ℤ, pos, get_or}
use Rattle.definitions.specs.declared.Motion.{Motion}
use Rattle.definitions.specs.declared.Split.{Split}
use Rattle.definitions.specs.Answer.{sub_types}
use Rattle.definitions.specs.Record.{Contents, sub_type_number, type_number}
use Rattle.motion.specs.declared.BlockMotion.{BlockMotion}
use Rattle.motion.specs.ByValue.{OneReference}
use Rattle.split.specs.declared.Types.{Types}
use Rattle.split.specs.Quadrant.{sub_chosen}

-- each quadrant has one reference in each list
abbrev pub OneReferenceEach : List (List BlockMotion) → Type 0
OneReferenceEach m = (q : ℕ) → q < 4 → OneReference (get_or m q [])

-- the type of quadrants of one motion each: numbered as the sub-type of those four motions, but from 1 on
unfoldable pub type_among : List Motion → ℕ
type_among m = sub_type_number (sub_chosen m) + 1

-- what a split says
abbrev pub types_of : Split → Types
types_of t = record { kind = type_number t; a = get_or (sub_types t) 0 0; b = get_or (sub_types t) 1 0; c = get_or (sub_types t) 2 0; d = get_or (sub_types t) 3 0 }

-- a record that says these, of motions of its blocks; and its first words
abbrev pub contents_by : Types → (ℕ → Motion) → ℤ → Contents
contents_by t m detail = record { kind = t.kind; sub = λ q. get_or (t.a ∷ t.b ∷ t.c ∷ t.d ∷ []) q 0; motion = m; detail = detail }

abbrev pub type_words : Types → List ℤ
type_words t = pos t.kind ∷ pos t.a ∷ pos t.b ∷ pos t.c ∷ pos t.d ∷ []
