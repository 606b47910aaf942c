-- "Which small macroblock fed it" of document 02 (E5): how much of a macroblock came from each of the base macroblocks at first, right, below and diagonal. By the block map, before any
-- filling from neighbours.
use Rattle.std.specs.Prelude.{ℕ, ◌+◌, ◌*◌, ◌≤◌, ◌≡◌, Bool, true, false, ◌&&◌, ◌↔◌, eqb, ℤ}
use mathlib.Core.List.{List, Memᴰ}
use Rattle.definitions.specs.declared.Axis.{Axis}
use Rattle.definitions.specs.declared.Axes.{Axes}
use Rattle.definitions.specs.declared.AxisStep.{AxisStep}
use Rattle.definitions.specs.Basics.{pick, how_many}
use Rattle.definitions.specs.Geometry.{columns_read, inside_axis, inside, sample_of}
use Rattle.definitions.specs.Accepted.{AcceptedAxis, AcceptedAxes}
use Rattle.definitions.specs.BlockMap.{column_of, falls_in, across, down, step_of}
use Rattle.definitions.specs.Raster.{base_address}
use Rattle.definitions.specs.Record.{record_at, is_intra}
use Rattle.definitions.specs.Inheriting.{blocks_reading_intra}

-- Block i reads the base macroblock at column x and row y: its coordinates divided by 4 are x and y. (Not by address: in a base one macroblock wide those to the right and
-- below have one address.)
abbrev pub reads_at : Axes → ℕ → ℕ → ℕ → ℕ → ℕ → Bool
reads_at g column row x y i = eqb (column_of (across g column i)) x && eqb (column_of (down g row i)) y

-- of the sixteen blocks, how many do
unfoldable pub blocks_reading : Axes → ℕ → ℕ → ℕ → ℕ → ℕ
blocks_reading g column row x y = how_many 16 (reads_at g column row x y)

-- the four counts: of the base macroblocks at first, right, below and diagonal
pub record Fed : Type 0 where
  pub first : ℕ
  pub right : ℕ
  pub below : ℕ
  pub diagonal : ℕ

abbrev pub first_column : Axes → ℕ → ℕ
first_column g column = (step_of g.horizontal (sample_of column)).first

abbrev pub first_row : Axes → ℕ → ℕ
first_row g row = (step_of g.vertical (sample_of row)).first

unfoldable pub fed_at : Axes → ℕ → ℕ → Fed
fed_at g column row =
    let x = first_column g column in
    let y = first_row g row in
    record {
      first = blocks_reading g column row x y;
      right = blocks_reading g column row (x + 1) y;
      below = blocks_reading g column row x (y + 1);
      diagonal = blocks_reading g column row (x + 1) (y + 1);
    }

abbrev pub sum_fed : Fed → ℕ
sum_fed f = f.first + f.right + f.below + f.diagonal

-- What holds of an axis step's count: 4 where one column (row) is read, 1 to 3 where two are, and the rest fall in the next
pub record FallsRight (s : AxisStep) : Type 0 where
  pub one : s.two ≡ false → s.falls ≡ 4
  pub two : s.two ≡ true → (1 ≤ s.falls) × (s.falls ≤ 3)
  pub rest : s.falls + falls_in s.reads (s.first + 1) ≡ 4

-- 1 where the base macroblock at column x and row y is intra, else 0
abbrev pub intra_at : Axes → List ℤ → ℕ → ℕ → ℕ
intra_at g base x y = pick (is_intra (record_at base (base_address g x y))) 1 0

-- What holds of the counts inside the window
pub record FedRight (g : Axes) (column row : ℕ) : Type 0 where
  -- they sum to sixteen;
  pub sum : sum_fed (fed_at g column row) ≡ 16
  -- a macroblock that the class leaves out has 0, and one that it names at least 1 (the class says which columns and rows are read: proofs/Map: `class-columns`, `class-rows`);
  pub named : (x y : ℕ)
      → (1 ≤ blocks_reading g column row x y)
      ↔ (Memᴰ x (columns_read (first_column g column) (step_of g.horizontal (sample_of column)).two) × Memᴰ y (columns_read (first_row g row) (step_of g.vertical (sample_of row)).two))
  -- each is the product of what falls in its column and in its row;
  pub products : (x y : ℕ)
      → blocks_reading g column row x y ≡ falls_in (step_of g.horizontal (sample_of column)).reads x * falls_in (step_of g.vertical (sample_of row)).reads y
  -- the number of blocks that read intra macroblocks is the sum of the counts of the intra ones among the four.
  pub intra : (base : List ℤ)
      → blocks_reading_intra g base column row
      ≡ intra_at g base (first_column g column) (first_row g row) * (fed_at g column row).first + intra_at g base (first_column g column + 1) (first_row g row) * (fed_at g column row).right
      + intra_at g base (first_column g column) (first_row g row + 1) * (fed_at g column row).below + intra_at g base (first_column g column + 1) (first_row g row + 1) * (fed_at g column row).diagonal

-- for every accepted geometry, both axes by one law
pub record FedEntire : Type 0 where
  pub axes : (a : Axis) (x : ℕ) → AcceptedAxis a → inside_axis a (sample_of x) ≡ true → FallsRight (step_of a (sample_of x))
  pub counts : (g : Axes) (column row : ℕ) → AcceptedAxes g → inside g column row ≡ true → FedRight g column row
