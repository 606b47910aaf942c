-- How many macroblocks the base and the picture have, and their addresses: "Macroblock addresses are raster too" ("A motion record" of document 01).
use Rattle.std.specs.Prelude.{ℕ, ◌+◌, ◌*◌, ◌/◌, ◌%◌}
use Rattle.definitions.specs.declared.Axes.{Axes}
use Rattle.definitions.specs.Geometry.{base_size, full_size, macroblocks}

-- the macroblocks of the base, and of the picture
abbrev pub base_count : Axes → ℕ
base_count g = macroblocks (base_size g.horizontal) * macroblocks (base_size g.vertical)

abbrev pub full_count : Axes → ℕ
full_count g = macroblocks (full_size g.horizontal) * macroblocks (full_size g.vertical)

-- the address of the base macroblock at a column and row, and of the picture's
abbrev pub base_address : Axes → ℕ → ℕ → ℕ
base_address g column row = row * macroblocks (base_size g.horizontal) + column

abbrev pub full_address : Axes → ℕ → ℕ → ℕ
full_address g column row = row * macroblocks (full_size g.horizontal) + column

-- and back: the column and row of an address of the picture
abbrev pub column_at : Axes → ℕ → ℕ
column_at g address = address % macroblocks (full_size g.horizontal)

abbrev pub row_at : Axes → ℕ → ℕ
row_at g address = address / macroblocks (full_size g.horizontal)
