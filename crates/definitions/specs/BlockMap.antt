-- "Block map" of document 01 (003's Table 3, and the rows that document 01 adds, marked +).
use Rattle.std.specs.Prelude.{ℕ, ◌+◌, ◌*◌, ◌/◌, ◌%◌, Bool, true, false, ◌&&◌, List, [], ◌∷◌, eqb, ℤ, pos, get_or}
use Rattle.definitions.specs.declared.Axis.{Axis}
use Rattle.definitions.specs.declared.Axes.{Axes}
use Rattle.definitions.specs.declared.AxisStep.{AxisStep}
use Rattle.definitions.specs.Basics.{pick, minus, eq_z, how_many, four}
use Rattle.definitions.specs.Geometry.{base_size, scaled_size, c_of, k_of, m_of, n_of, f_of, two_of, even, sample_of}
use Rattle.definitions.specs.Raster.{base_address}

-- a row: M, N and the four m as digits
pub record MapRow : Type 0 where
  pub border : ℤ
  pub border8 : ℤ
  pub digits : List ℕ

abbrev pub map_row : ℤ → ℤ → ℕ → ℕ → ℕ → ℕ → MapRow
map_row m n a b c d = record { border = m; border8 = n; digits = a ∷ b ∷ c ∷ d ∷ [] }

abbrev pub even_rows : List MapRow
even_rows =
    map_row (minus 16) (pos 0) 1 1 2 2  -- +
    ∷ map_row (minus 16) (pos 4) 1 1 1 2  -- +
    ∷ map_row (minus 12) (pos 0) 1 1 2 2  -- +
    ∷ map_row (minus 12) (pos 4) 0 1 1 2
    ∷ map_row (minus 12) (pos 8) 0 0 1 1  -- +
    ∷ map_row (minus 8) (pos 0) 0 1 2 3  -- +
    ∷ map_row (minus 8) (pos 4) 0 0 1 2
    ∷ map_row (minus 8) (pos 8) 0 0 1 1
    ∷ map_row (minus 8) (pos 12) 0 0 1 1  -- +
    ∷ map_row (minus 4) (pos 4) 3 4 5 6
    ∷ map_row (minus 4) (pos 8) 3 4 5 5
    ∷ map_row (minus 4) (pos 12) 3 4 4 5
    ∷ map_row (minus 4) (pos 16) 3 4 4 4  -- +
    ∷ map_row (pos 0) (pos 8) 2 3 4 5
    ∷ map_row (pos 0) (pos 12) 3 3 4 4
    ∷ map_row (pos 0) (pos 16) 3 3 4 4
    ∷ []

abbrev pub odd_rows : List MapRow
odd_rows =
    map_row (pos 0) (minus 16) 3 3 4 4  -- +
    ∷ map_row (pos 0) (minus 12) 3 3 4 4  -- +
    ∷ map_row (pos 0) (minus 8) 2 3 4 5  -- +
    ∷ map_row (pos 4) (minus 16) 3 3 3 4  -- +
    ∷ map_row (pos 4) (minus 12) 2 3 3 4
    ∷ map_row (pos 4) (minus 8) 2 2 3 4
    ∷ map_row (pos 4) (minus 4) 1 2 3 4
    ∷ map_row (pos 8) (minus 12) 2 2 3 3  -- +
    ∷ map_row (pos 8) (minus 8) 2 2 3 3
    ∷ map_row (pos 8) (minus 4) 1 2 3 3
    ∷ map_row (pos 8) (pos 0) 0 1 2 3
    ∷ map_row (pos 12) (minus 8) 2 2 3 3  -- +
    ∷ map_row (pos 12) (minus 4) 1 2 2 3
    ∷ map_row (pos 12) (pos 0) 1 1 2 2
    ∷ map_row (pos 16) (minus 4) 1 2 2 2  -- +
    ∷ map_row (pos 16) (pos 0) 1 1 2 2
    ∷ []

abbrev pub map_rows : Bool → List MapRow
map_rows true = even_rows
map_rows false = odd_rows

-- the digits of the row with this M and N; none if there is no such row
abbrev pub row_digits : List MapRow → ℤ → ℤ → List ℕ
row_digits [] m n = []
row_digits (r ∷ rs) m n = pick (eq_z r.border m && eq_z r.border8 n) r.digits (row_digits rs m n)

unfoldable pub digits_of : Bool → ℤ → ℤ → List ℕ
digits_of k-even m n = row_digits (map_rows k-even) m n

-- Block i of 0..3 along an axis reads base 4 by 4 coordinate 4F + m
unfoldable pub coordinate_of : ℕ → ℕ → ℕ → ℕ → ℕ
coordinate_of b s c i = 4 * f_of b s c + get_or (digits_of (even (k_of b s c)) (m_of b s c) (n_of b s c)) i 0

-- a coordinate divided by 4 is the base column or row, its remainder the block's in that macroblock
abbrev pub column_of : ℕ → ℕ
column_of q = q / 4

abbrev pub block_in : ℕ → ℕ
block_in q = q % 4

-- how many of the four blocks along an axis, by the coordinates that they read, fall in column (row) x (document 02, E5)
abbrev pub falls_in : List ℕ → ℕ → ℕ
falls_in reads x = how_many 4 (λ i. eqb (column_of (get_or reads i 0)) x)

-- all that an axis gives for the macroblock at sample P, and with E5 how many of its four blocks fall in the first column or row
unfoldable pub step_of : Axis → ℕ → AxisStep
step_of a p =
    let b = base_size a in
    let s = scaled_size a in
    let c = c_of a p in
    record {
      k = k_of b s c;
      border = record { 0 = m_of b s c };
      border8 = record { 0 = n_of b s c };
      first = f_of b s c;
      two = two_of b s c;
      reads = four (coordinate_of b s c);
      falls = falls_in (four (coordinate_of b s c)) (f_of b s c);
    }

-- Both axes: block i of 0..15 of the macroblock at a column and row, in raster order. The coordinates that it reads
abbrev pub across : Axes → ℕ → ℕ → ℕ
across g column i = get_or (step_of g.horizontal (sample_of column)).reads (i % 4) 0

abbrev pub down : Axes → ℕ → ℕ → ℕ
down g row i = get_or (step_of g.vertical (sample_of row)).reads (i / 4) 0

-- the base macroblock that block i reads, and which of its blocks
unfoldable pub address_read : Axes → ℕ → ℕ → ℕ → ℕ
address_read g column row i = base_address g (column_of (across g column i)) (column_of (down g row i))

unfoldable pub block_read : Axes → ℕ → ℕ → ℕ → ℕ
block_read g column row i = 4 * block_in (down g row i) + block_in (across g column i)
