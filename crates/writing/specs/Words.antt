-- A quadrant's words in a record, and the motions that they say.
use Rattle.std.specs.Prelude.{ℕ, ◌+◌, ◌*◌, List, ◌++◌, ℤ, get_or}
use Rattle.std.proofs.lemmas.List.Edits.{sets}
use Rattle.definitions.specs.declared.Motion.{Motion}
use Rattle.definitions.specs.Basics.{four}
use Rattle.definitions.specs.Blocks.{raster_of}
use Rattle.definitions.specs.Inheriting.{zero_motion}
use Rattle.definitions.specs.Record.{motion_of, references_of, vectors_of}
use Rattle.motion.specs.declared.Scales.{Scales}
use Rattle.motion.specs.Scales.{motion_scaled}

-- the motions of a quadrant, scaled
abbrev pub quadrant_scaled : Scales → List Motion → List Motion
quadrant_scaled s m = four (λ k. motion_scaled s (get_or m k zero_motion))

-- the vectors of blocks k and k + 1 of a quadrant
abbrev pub pair_of : List Motion → ℕ → List ℤ
pair_of m k = vectors_of (get_or m k zero_motion) ++ vectors_of (get_or m (k + 1) zero_motion)

-- a record with quadrant q in its places: the references of its first block, and the vectors of its upper and of its lower row of blocks
unfoldable pub quadrant_put : ℕ → List Motion → List ℤ → List ℤ
quadrant_put q m record' =
    sets (sets (sets record' (5 + 2 * q) (references_of (get_or m 0 zero_motion))) (13 + 4 * raster_of q 0) (pair_of m 0)) (13 + 4 * raster_of q 2) (pair_of m 2)

-- the motions of the quadrants' first blocks, read back
abbrev pub firsts_in : List ℤ → List Motion
firsts_in r = four (λ q. motion_of r (raster_of q 0))
