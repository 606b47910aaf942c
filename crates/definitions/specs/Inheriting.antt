-- "Inheriting" of document 01, steps 1 to 5.
use Rattle.std.specs.Prelude.{ℕ, ◌+◌, ◌*◌, ◌/◌, Bool, false, not, List, [], leb, ℤ, pos, ◌+ℤ◌, ◌*ℤ◌, get_or}
use Rattle.std.specs.Int.Count.{ones}
use Rattle.std.specs.Int.Signed.{lt_z}
use Rattle.definitions.specs.declared.Axes.{Axes}
use Rattle.definitions.specs.declared.Prediction.{Prediction}
use Rattle.definitions.specs.declared.Motion.{Motion}
use Rattle.definitions.specs.declared.Split.{Split}
use Rattle.definitions.specs.Basics.{pick, minus, eq_z, bit_set, set_of, down, how_many, some_of, four}
use Rattle.definitions.specs.Geometry.{base_size, scaled_size}
use Rattle.definitions.specs.BlockMap.{address_read, block_read}
use Rattle.definitions.specs.Record.{record_at, is_intra, motion_of, used}
use Rattle.definitions.specs.Blocks.{quadrant_of, in_quadrant, raster_of, horizontal_neighbour, vertical_neighbour, diagonal_neighbour}
use Rattle.definitions.specs.Splits.{splits, fewest_in}

-- block i of the macroblock reads an intra macroblock
abbrev pub reads_intra : Axes → List ℤ → ℕ → ℕ → ℕ → Bool
reads_intra g base column row i = is_intra (record_at base (address_read g column row i))

-- how many of the sixteen blocks do
unfoldable pub blocks_reading_intra : Axes → List ℤ → ℕ → ℕ → ℕ
blocks_reading_intra g base column row = how_many 16 (reads_intra g base column row)

-- A sixteen-bit set marks the blocks that read intra macroblocks: bit i stands for block i.
abbrev pub marked : ℕ → ℕ → Bool
marked set i = bit_set set i

unfoldable pub intra_set : Axes → List ℤ → ℕ → ℕ → ℕ
intra_set g base column row = set_of 16 (reads_intra g base column row)

-- Its count of members decides: nine or more, the answer is intra. (The count is blocks_reading_intra, and a bit is its block's: proofs/Sets.)
abbrev pub mostly_intra : ℕ → Bool
mostly_intra set = leb 9 (ones set)

-- The motion that each block reads, as four quadrants of four blocks. What stands beyond the four is read by no step.
abbrev pub zero_prediction : Prediction
zero_prediction = record { reference = pos 0; x = pos 0; y = pos 0 }

abbrev pub zero_motion : Motion
zero_motion = record { list0 = zero_prediction; list1 = zero_prediction }

abbrev pub at : List (List Motion) → ℕ → ℕ → Motion
at m q k = get_or (get_or m q []) k zero_motion

abbrev pub motion_at : List (List Motion) → ℕ → Motion
motion_at m i = at m (quadrant_of i) (in_quadrant i)

unfoldable pub gathered : Axes → List ℤ → ℕ → ℕ → List (List Motion)
gathered g base column row =
    four (λ q. four (λ k. motion_of (record_at base (address_read g column row (raster_of q k))) (block_read g column row (raster_of q k))))

-- block k itself if it is good, else the first good one of its horizontal, its vertical and its diagonal neighbour
unfoldable pub source : List Bool → ℕ → ℕ
source good k =
    pick (get_or good k false) k
    (pick (get_or good (horizontal_neighbour k) false) (horizontal_neighbour k)
    (pick (get_or good (vertical_neighbour k) false) (vertical_neighbour k)
    (pick (get_or good (diagonal_neighbour k) false) (diagonal_neighbour k)
    k)))

-- Step 1. In a quadrant with some intra blocks, each takes all motion of its horizontal neighbour in the quadrant, else the vertical one, else the
-- diagonal, whichever first reads no intra; values are those before this step.
unfoldable pub clear_of : ℕ → ℕ → List Bool
clear_of set q = four (λ k. not (marked set (raster_of q k)))

unfoldable pub filled : List Bool → List Motion → List Motion
filled clear m = four (λ k. get_or m (source clear k) zero_motion)

-- Step 2. Per list, r is the lowest used reference. Blocks whose reference is not r take r with the vector of the horizontal, else vertical, else
-- diagonal block that had r before this step. If none is used, the list stays −1 with vectors 0.
unfoldable pub lower : ℤ → ℤ → ℤ
lower a b = pick (used a) (pick (used b) (pick (lt_z b a) b a) a) b

abbrev pub reference_at : List Prediction → ℕ → ℤ
reference_at p k = (get_or p k zero_prediction).reference

unfoldable pub lowest : List Prediction → ℤ
lowest p = lower (lower (reference_at p 0) (reference_at p 1)) (lower (reference_at p 2) (reference_at p 3))

unfoldable pub having : List Prediction → ℤ → List Bool
having p r = four (λ k. eq_z (reference_at p k) r)

abbrev pub with_reference : ℤ → Prediction → Prediction
with_reference r p = record { reference = r; x = p.x; y = p.y }

abbrev pub unused : Prediction
unused = record { reference = minus 1; x = pos 0; y = pos 0 }

unfoldable pub merged_list : List Prediction → List Prediction
merged_list p =
    pick (used (lowest p)) (four (λ k. with_reference (lowest p) (get_or p (source (having p (lowest p)) k) zero_prediction))) (four (λ k. unused))

unfoldable pub merged : List Motion → List Motion
merged m =
    four (λ k. record {
      list0 = get_or (merged_list (four (λ j. (get_or m j zero_motion).list0))) k zero_prediction;
      list1 = get_or (merged_list (four (λ j. (get_or m j zero_motion).list1))) k zero_prediction;
    })

-- Step 3. A quadrant all intra copies its horizontal neighbour quadrant, block for block; if that was all intra too, the vertical one.
-- the quadrants of which some block is not intra
unfoldable pub live_of : ℕ → List Bool
live_of set = four (λ q. some_of (clear_of set q))

unfoldable pub copied_from : List Bool → ℕ → ℕ
copied_from live q = pick (get_or live q false) q (pick (get_or live (horizontal_neighbour q) false) (horizontal_neighbour q) (vertical_neighbour q))

unfoldable pub copied : List Bool → List (List Motion) → List (List Motion)
copied live m = four (λ q. get_or m (copied_from live q) [])

-- Steps 1 to 3, in order. (What steps 1 and 2 would make of a quadrant all intra is not read: step 3 writes it over.)
unfoldable pub resolved : ℕ → List (List Motion) → List (List Motion)
resolved set m = copied (live_of set) (four (λ q. merged (filled (clear_of set q) (get_or m q []))))

-- Step 4, as document 02's E3 has it: the scale of an axis is (S · 65,536 + B/2) / B, and a vector word v becomes (v · scale + 32,768) / 65,536 by its axis, rounded
-- down, also below zero.
abbrev pub scale_of : ℕ → ℕ → ℕ
scale_of b s = (s * 65536 + b / 2) / b

abbrev pub scaled_by : ℕ → ℤ → ℤ
scaled_by scale v = down (v *ℤ pos scale +ℤ pos 32768) 65536

abbrev pub scaled_word : ℕ → ℕ → ℤ → ℤ
scaled_word b s v = scaled_by (scale_of b s) v

unfoldable pub scaled_prediction : Axes → Prediction → Prediction
scaled_prediction g p = record {
  reference = p.reference;
  x = scaled_word (base_size g.horizontal) (scaled_size g.horizontal) p.x;
  y = scaled_word (base_size g.vertical) (scaled_size g.vertical) p.y;
}

unfoldable pub scaled_motion : Axes → Motion → Motion
scaled_motion g m = record { list0 = scaled_prediction g m.list0; list1 = scaled_prediction g m.list1 }

unfoldable pub inherited_motions : Axes → List ℤ → ℕ → ℕ → List (List Motion)
inherited_motions g base column row =
    four (λ q. four (λ k. scaled_motion g (at (resolved (intra_set g base column row) (gathered g base column row)) q k)))

-- Step 5. Split: the fewest pieces with one motion in each, of the 259 permitted.
abbrev pub chosen : List (List Motion) → Split
chosen m = fewest_in splits (motion_at m)
