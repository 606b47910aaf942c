-- What document 02's E7 asks of a macroblock, by the coordinates that its axes give, and the sets of bits that the functions hand on.
use Rattle.std.specs.Prelude.{ℕ, ◌+◌, ◌*◌, ◌-◌, ◌/◌, ◌%◌, ◌^◌, ◌≡◌, Bool, ◌&&◌, List, [], ◌∷◌, eqb, ℤ, nat_abs, get_or}
use Rattle.std.specs.Int.Bits.{bit_and, bit_or}
use Rattle.definitions.specs.Basics.{four, pick, set_of, some_of}
use Rattle.definitions.specs.Blocks.{quadrant_of, raster_of}
use Rattle.definitions.specs.BlockMap.{block_in, column_of}
use Rattle.definitions.specs.Record.{detail_of, has_detail}
use Rattle.gather.specs.Reads.{block_at, record_read}

-- ---- The definition's bits: the block with coordinates x and y reads a base quadrant whose bit is set; a quadrant does in one of its blocks; the four
abbrev pub detail_read : ℕ → List ℤ → ℕ → ℕ → Bool
detail_read width base x y = has_detail (record_read width base x y) (quadrant_of (block_at x y))

abbrev pub quadrant_reads : ℕ → List ℕ → List ℕ → List ℤ → ℕ → Bool
quadrant_reads width across down base q =
    some_of (four (λ k. detail_read width base (get_or across (raster_of q k % 4) 0) (get_or down (raster_of q k / 4) 0)))

unfoldable pub detail_by : ℕ → List ℕ → List ℕ → List ℤ → ℕ
detail_by width across down base = set_of 4 (quadrant_reads width across down base)

-- ---- The bits of the macroblocks that the corner blocks read, four each
abbrev pub word_read : ℕ → List ℤ → ℕ → ℕ → ℕ
word_read width base x y = nat_abs (detail_of (record_read width base x y))

abbrev pub details_by : ℕ → List ℕ → List ℕ → List ℤ → ℕ
details_by width across down base =
    word_read width base (get_or across 0 0) (get_or down 0 0) + 16 * word_read width base (get_or across 3 0) (get_or down 0 0)
    + 256 * word_read width base (get_or across 0 0) (get_or down 3 0) + 4096 * word_read width base (get_or across 3 0) (get_or down 3 0)

-- the first and the last coordinate lie in one part of d blocks: a macroblock where d is 4, a quadrant where it is 2
abbrev pub InOne : ℕ → List ℕ → Type 0
InOne d x = get_or x 3 0 / d ≡ get_or x 0 0 / d

-- ---- Sets of bits. In the sixteen bits of the corners' words, quadrant c, r of the macroblock C columns and R rows after the first has the place 4C + c + 8R + 2r. What the
-- coordinate x of a block adds to that place, on the axis whose first block reads `first`: across 4C + c, and down twice that.
abbrev pub place_of : ℕ → ℕ → ℕ
place_of first x = 4 * (column_of x - column_of first) + block_in x / 2

-- of two blocks, and of the first two and the last two along an axis
abbrev pub pair_of : ℕ → ℕ → ℕ → ℕ
pair_of first x y = bit_or (2 ^ place_of first x) (2 ^ place_of first y)

unfoldable pub halves_of : List ℕ → List ℕ
halves_of x = pair_of (get_or x 0 0) (get_or x 0 0) (get_or x 1 0) ∷ pair_of (get_or x 0 0) (get_or x 2 0) (get_or x 3 0) ∷ []

-- a set of six bits with bit k at 2k
abbrev pub as_rows : ℕ → ℕ
as_rows c = c % 2 + 4 * (c / 2 % 2) + 16 * (c / 4 % 2) + 64 * (c / 8 % 2) + 256 * (c / 16 % 2) + 1024 * (c / 32 % 2)

-- 1 where some bit of the mask is set, else 0; and the four, by the sets of the columns and of the rows
abbrev pub masked : ℕ → ℕ → ℕ
masked bits mask = pick (eqb (bit_and bits mask) 0) 0 1

abbrev pub masked_by : ℕ → List ℕ → ℕ → ℕ → ℕ
masked_by bits h upper lower =
    masked bits (get_or h 0 0 * upper) + 2 * masked bits (get_or h 1 0 * upper) + 4 * masked bits (get_or h 0 0 * lower) + 8 * masked bits (get_or h 1 0 * lower)

abbrev pub four_masked : ℕ → List ℕ → List ℕ → ℕ
four_masked bits h v = masked_by bits h (as_rows (get_or v 0 0)) (as_rows (get_or v 1 0))

-- the first two blocks read the first half of one macroblock, and the last two the other
abbrev pub is_own : List ℕ → Bool
is_own h = eqb (get_or h 0 0) 1 && eqb (get_or h 1 0) 2
