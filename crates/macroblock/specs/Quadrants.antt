-- What steps 1 and 2 ask of the blocks that a quadrant reads.
use Rattle.std.specs.Prelude.{ℕ, ◌<◌, Bool, false, ◌&&◌, ◌≡◌, List, eqb, ℤ, get_or}
use Rattle.gather.specs.declared.Spot.{Spot}
use Rattle.gather.specs.Reads.{PlacesIn, quadrant_from}
use Rattle.motion.specs.ByValue.{AllReferring, motions_in}
use Rattle.quadrant.specs.Merging.{AllEmpty}

-- the four blocks read one quadrant of a base macroblock: their references stand in one place
abbrev pub plain_at : Spot → Spot → Spot → Spot → Bool
plain_at left right upper lower = eqb left.references right.references && eqb upper.references lower.references

-- all four blocks are clear, or none is
abbrev pub Alike : List Bool → Type 0
Alike clear = (k : ℕ) → k < 4 → get_or clear k false ≡ get_or clear 0 false

-- the blocks lie in the base, an unused list of theirs has no vector, and their references are as rule 3 asks
pub record Mergeable (base : List ℤ) (left right upper lower : Spot) : Type 0 where
  pub places : PlacesIn base left right upper lower
  pub empty : AllEmpty (motions_in (quadrant_from base left right upper lower))
  pub referring : AllReferring (quadrant_from base left right upper lower)
