-- How blocks are numbered: 0 to 15 in raster order, four to a row, and as four quadrants of four, each in raster order too.
use Rattle.std.specs.Prelude.{ℕ, ◌+◌, ◌*◌, ◌/◌, ◌%◌, [], ◌∷◌, get_or}

-- block i stands in this quadrant, and is in it this one of its four
abbrev pub quadrant_of : ℕ → ℕ
quadrant_of i = 2 * (i / 8) + i % 4 / 2

abbrev pub in_quadrant : ℕ → ℕ
in_quadrant i = 2 * (i / 4 % 2) + i % 2

-- and back: block k of quadrant q
abbrev pub raster_of : ℕ → ℕ → ℕ
raster_of q k = get_or (0 ∷ 2 ∷ 8 ∷ 10 ∷ []) q 0 + get_or (0 ∷ 1 ∷ 4 ∷ 5 ∷ []) k 0

-- Neighbours in a square of four in raster order, 0 1 above 2 3. Blocks of a quadrant, and quadrants of a macroblock, stand so.
abbrev pub horizontal_neighbour : ℕ → ℕ
horizontal_neighbour k = get_or (1 ∷ 0 ∷ 3 ∷ 2 ∷ []) k 0

abbrev pub vertical_neighbour : ℕ → ℕ
vertical_neighbour k = get_or (2 ∷ 3 ∷ 0 ∷ 1 ∷ []) k 0

abbrev pub diagonal_neighbour : ℕ → ℕ
diagonal_neighbour k = get_or (3 ∷ 2 ∷ 1 ∷ 0 ∷ []) k 0
