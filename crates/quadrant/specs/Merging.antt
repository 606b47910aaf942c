-- Step 2 on one list of four blocks: the lowest reference, and which block's vector is taken with it.
use Rattle.std.specs.Prelude.{◌≡◌, ℕ, ◌<◌, Bool, false, List, [], ◌∷◌, ℤ, slice_index_or, unsigned_abs}
use Rattle.definitions.specs.declared.Prediction.{Prediction}
use Rattle.definitions.specs.declared.Motion.{Motion}
use Rattle.motion.specs.declared.BlockMotion.{BlockMotion}
use Rattle.definitions.specs.Basics.{pick, eq_z}
use Rattle.definitions.specs.Record.{used}
use Rattle.definitions.specs.Inheriting.{lower, zero_motion, unused}

-- the rank of a reference: an unused one comes last
abbrev pub rank_of : ℤ → ℕ
rank_of r = pick (used r) (unsigned_abs r) 4294967295

unfoldable pub lowest_of : ℤ → ℤ → ℤ → ℤ → ℤ
lowest_of p q s t = lower (lower p q) (lower s t)

-- which of four references are the lowest
unfoldable pub having4 : ℤ → ℤ → ℤ → ℤ → List Bool
having4 p q s t = eq_z p (lowest_of p q s t) ∷ eq_z q (lowest_of p q s t) ∷ eq_z s (lowest_of p q s t) ∷ eq_z t (lowest_of p q s t) ∷ []

-- references with the vector of list 0 from one block and that of list 1 from another
abbrev pub joined_of : ℤ → ℤ → BlockMotion → BlockMotion → BlockMotion
joined_of r0 r1 one other = record { r0 = r0; r1 = r1; x0 = one.x0; y0 = one.y0; x1 = other.x1; y1 = other.y1 }

-- an unused list of a block has no vector, as rule 5 asks of a record
abbrev pub Empty : Prediction → Type 0
Empty p = used p.reference ≡ false → p ≡ unused

abbrev pub AllEmpty : List Motion → Type 0
AllEmpty m = (k : ℕ) → k < 4 → Empty (slice_index_or m k zero_motion).list0 × Empty (slice_index_or m k zero_motion).list1
