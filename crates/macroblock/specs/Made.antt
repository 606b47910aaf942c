-- What is made of a macroblock, as a function of what is fixed for a picture, of what the macroblock's axes give, and of the base: document 01's, with the axes' part worked
-- out once.
use Rattle.std.specs.Prelude.{ℕ, ◌*◌, ◌-◌, ◌/◌, ◌<◌, ◌≤◌, Bool, true, false, not, ◌&&◌, ◌≡◌, List, [], ◌∷◌, eqb, ℤ, pos, nat_abs, get_or}
use Rattle.definitions.specs.declared.Axis.{Axis}
use Rattle.definitions.specs.declared.Axes.{Axes}
use Rattle.definitions.specs.declared.AxisStep.{AxisStep}
use Rattle.definitions.specs.declared.Motion.{Motion}
use Rattle.definitions.specs.declared.Origin.{Origin}
use Rattle.definitions.specs.declared.Basis.{Basis}
use Rattle.definitions.specs.declared.Answer.{Answer}
use Rattle.definitions.specs.declared.Answer.TheVariants.{Outside, Intra, Inherited}
use Rattle.definitions.specs.declared.Split.{Split}
use Rattle.macroblock.specs.declared.AxisRead.{AxisRead}
use Rattle.macroblock.specs.declared.Said.{Said}
use Rattle.macroblock.specs.declared.Fixed.{Fixed}
use Rattle.common.specs.declared.counts.Sort.{Sort}
use Rattle.common.specs.declared.counts.Sort.TheVariants.{Inherited as SortInherited, Intra as SortIntra, Outside as SortOutside}
use Rattle.definitions.specs.Basics.{pick}
use Rattle.definitions.specs.Geometry.{base_size, class_of, macroblocks, inside_axis, sample_of}
use Rattle.definitions.specs.BlockMap.{column_of, step_of}
use Rattle.details.specs.Bits.{detail_by, halves_of}
use Rattle.definitions.specs.Record.{detail_of, laid_out, split_said, sub_type_of, type_of}
use Rattle.definitions.specs.Inheriting.{mostly_intra, motion_at, resolved, chosen}
use Rattle.definitions.specs.Answer.{Made, divided_by, without_motion}
use Rattle.motion.specs.declared.Scales.{Scales}
use Rattle.motion.specs.Scales.{AcceptedScales, all_scaled, scales_of}
use Rattle.gather.specs.Reads.{Readable, Rising, set_by, gathered_by}

-- ---- What is fixed for a picture: the base's width in macroblocks, and the scales
abbrev pub fixed_of : Axes → Fixed
fixed_of g = record { width = macroblocks (base_size g.horizontal); scales = scales_of g }

abbrev pub fixed_with : ℕ → Scales → Fixed
fixed_with width scales = record { width = width; scales = scales }

-- ---- An axis at a macroblock
-- inside, of its step the coordinates that are read, the sets of base quadrants along it that the first two blocks and the last two read, and how many blocks fall in the first column (row)
abbrev pub read_in : AxisStep → AxisRead
read_in s = record { reads = s.reads; halves = halves_of s.reads; falls = s.falls; inside = true }

abbrev pub nowhere : AxisRead
nowhere = record { reads = 65535 ∷ 65535 ∷ 65535 ∷ 65535 ∷ []; halves = 0 ∷ 0 ∷ []; falls = 0; inside = false }

unfoldable pub read_of : Axis → ℕ → AxisRead
read_of a x = pick (inside_axis a (sample_of x)) (read_in (step_of a (sample_of x))) nowhere

-- inside, two columns (rows) are read: not all four blocks fall in the first
abbrev pub two_read : AxisRead → Bool
two_read r = not (eqb r.falls 4)

-- the coordinates of a step have sixteen bits, and rise; four at most fall in the first column (row)
pub record SmallRising (s : AxisStep) : Type 0 where
  pub falls : s.falls ≤ 4
  pub reads : (i : ℕ) → i < 4 → get_or s.reads i 0 < 65536
  pub rising : Rising s.reads

-- ---- What is made inside, by the coordinates that are read
-- the first and the last coordinate lie in one column (row) where d is 4, and in one half of it where d is 2
abbrev pub one_part : ℕ → List ℕ → Bool
one_part d reads = eqb (get_or reads 3 0 / d) (get_or reads 0 0 / d)

module _ (f : Fixed) (across down : List ℕ) (base : List ℤ) where
  -- the detail; the intra set; the motions after steps 1 to 3, and after step 4
  abbrev pub detail_inside : ℕ
  detail_inside = detail_by f.width across down base

  abbrev pub set_inside : ℕ
  set_inside = set_by f.width across down base

  unfoldable pub resolved_inside : List (List Motion)
  resolved_inside = resolved set_inside (gathered_by f.width across down base)

  unfoldable pub motions_inside : List (List Motion)
  motions_inside = all_scaled f.scales resolved_inside

  -- the record where it inherits, and where it is inside
  unfoldable pub inherited_inside : List ℤ
  inherited_inside = laid_out (divided_by (chosen motions_inside) (motion_at motions_inside) (pos detail_inside))

  unfoldable pub written_inside : List ℤ
  written_inside = pick (mostly_intra set_inside) (without_motion 0 (pos detail_inside)) inherited_inside

  unfoldable pub sort_inside : Sort
  sort_inside = pick (mostly_intra set_inside) SortIntra SortInherited

-- ---- What is made of any macroblock: outside no record is read
module _ (f : Fixed) (h v : AxisRead) (base : List ℤ) where
  unfoldable pub written_by : List ℤ
  written_by = pick (h.inside && v.inside) (written_inside f h.reads v.reads base) (without_motion 5 (pos 0))

  unfoldable pub sort_by : Sort
  sort_by = pick (h.inside && v.inside) (sort_inside f h.reads v.reads base) SortOutside

-- the answer of a sort: what it names (the first column (row) of an axis is that of its first coordinate), its detail, what fed it, and the split that is chosen
abbrev pub first_of : AxisRead → ℕ
first_of r = column_of (get_or r.reads 0 0)

abbrev pub origin_by : AxisRead → AxisRead → Origin
origin_by h v = record { class = class_of (two_read h) (two_read v); column = first_of h; row = first_of v }

-- (each count is the product of what falls in its column and in its row)
abbrev pub basis_with : AxisRead → AxisRead → ℕ → Basis
basis_with h v detail = record {
  origin = origin_by h v;
  detail = detail;
  first = h.falls * v.falls;
  right = (4 - h.falls) * v.falls;
  below = h.falls * (4 - v.falls);
  diagonal = (4 - h.falls) * (4 - v.falls);
}

-- what a written record says of its answer: its type, its sub-types and its detail; the split, and the answer of a sort
abbrev pub said_by : List ℤ → Said
said_by r = record { kind = type_of r; a = sub_type_of r 0; b = sub_type_of r 1; c = sub_type_of r 2; d = sub_type_of r 3; detail = nat_abs (detail_of r) }

abbrev pub split_in : Said → Split
split_in s = split_said (s.kind ∷ s.a ∷ s.b ∷ s.c ∷ s.d ∷ [])

-- a sort of the window's inside
abbrev pub within : Sort → Bool
within SortInherited = true
within SortIntra = true
within SortOutside = false

abbrev pub answer_said : Sort → AxisRead → AxisRead → Said → Answer
answer_said SortOutside h v s = Outside
answer_said SortIntra h v s = Intra (basis_with h v s.detail)
answer_said SortInherited h v s = Inherited (basis_with h v s.detail) (split_in s)

abbrev pub basis_by : Fixed → AxisRead → AxisRead → List ℤ → Basis
basis_by f h v base = basis_with h v (detail_inside f h.reads v.reads base)

abbrev pub answer_for : Sort → Basis → List (List Motion) → Answer
answer_for SortOutside b m = Outside
answer_for SortIntra b m = Intra b
answer_for SortInherited b m = Inherited b (chosen m)

unfoldable pub answer_by : Fixed → AxisRead → AxisRead → List ℤ → Answer
answer_by f h v base = answer_for (sort_by f h v base) (basis_by f h v base) (motions_inside f h.reads v.reads base)

-- both, as the laws of the calls have it
unfoldable pub made_by : Fixed → AxisRead → AxisRead → List ℤ → Made
made_by f h v base = record { answer = answer_by f h v base; written = written_by f h v base }

-- ---- What the making of a macroblock asks: what is fixed for an accepted geometry, records that lie in the base and are well formed, and coordinates as the block map gives
-- them
pub record Ready (limit : ℕ) (f : Fixed) (across down : List ℕ) (base : List ℤ) : Type 0 where
  pub scales : AcceptedScales f.scales
  pub width : f.width ≤ 256
  pub readable : Readable limit f.width across down base
  pub columns : Rising across
  pub rows : Rising down

-- and of the axes that their sets are those of their coordinates, and that four blocks at most fall in the first column and row
pub record MakeableInside (limit : ℕ) (f : Fixed) (h v : AxisRead) (base : List ℤ) : Type 0 where
  pub ready : Ready limit f h.reads v.reads base
  pub columns-falling : h.falls ≤ 4
  pub rows-falling : v.falls ≤ 4
  pub columns : h.halves ≡ halves_of h.reads
  pub rows : v.halves ≡ halves_of v.reads

abbrev pub Makeable : ℕ → Fixed → AxisRead → AxisRead → List ℤ → Type 0
Makeable limit f h v base = (h.inside && v.inside) ≡ true → MakeableInside limit f h v base
