-- What the quick tests find, where no definition of the crate records says it.
use Rattle.std.specs.Prelude.{ℕ, ◌+◌, ◌-◌, Bool, ◌&&◌, List, ℤ}
use Rattle.definitions.specs.Basics.{all_below}
use Rattle.definitions.specs.Blocks.{quadrant_of, raster_of}
use Rattle.definitions.specs.Record.{sub_type_of, sub_split_of}
use Rattle.records.specs.Checking.{quadrant_used, list_right, vectors_right, sub_first_block, same_vectors}

-- rules 4 and 5 of block b, which is not intra: a used list, and in both lists vectors as its references allow
unfoldable pub block_right : ℕ → List ℤ → ℕ → Bool
block_right limit r b = quadrant_used r (quadrant_of b) && all_below 2 (list_right limit r b)

-- of blocks first .. end−1, each has the vectors of the one that is a step before it, if that is one of them
unfoldable pub vectors_repeat : List ℤ → ℕ → ℕ → ℕ → Bool
vectors_repeat r first end step = all_below (end - (first + step)) (λ k. same_vectors r (first + k + step) (first + k))

-- the blocks of quadrant q have the vectors of the first block of their sub-partition
unfoldable pub sub_as_first : List ℤ → ℕ → Bool
sub_as_first r q = all_below 4 (λ k. same_vectors r (raster_of q k) (sub_first_block (sub_split_of (sub_type_of r q)) (raster_of q k)))

-- rules 5 and 6 of quadrant q in type 4
unfoldable pub quadrant_right : ℕ → List ℤ → ℕ → Bool
quadrant_right limit r q = vectors_right limit r q && sub_as_first r q
