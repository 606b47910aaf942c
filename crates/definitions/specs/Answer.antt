-- The answer and its written record ("Inheriting" of document 01, after the steps, and document 02's E7 and E5).
use Rattle.std.specs.Prelude.{ℕ, Bool, true, false, List, [], ◌∷◌, map, ℤ, pos, get_or}
use Rattle.definitions.specs.declared.Axes.{Axes}
use Rattle.definitions.specs.declared.Class.{Class}
use Rattle.definitions.specs.declared.Class.TheVariants.{Corner, Vert, Hori, Center}
use Rattle.definitions.specs.declared.Origin.{Origin}
use Rattle.definitions.specs.declared.Basis.{Basis}
use Rattle.definitions.specs.declared.Motion.{Motion}
use Rattle.definitions.specs.declared.Split.{Split}
use Rattle.definitions.specs.declared.Split.TheVariants.{S16x16, S16x8, S8x16, S8x8 as Quarters}
use Rattle.definitions.specs.declared.Answer.{Answer}
use Rattle.definitions.specs.declared.Answer.TheVariants.{Outside, Intra, Inherited}
use Rattle.definitions.specs.Basics.{pick, for_each}
use Rattle.definitions.specs.Geometry.{inside, class_of, columns_read, sample_of}
use Rattle.definitions.specs.BlockMap.{step_of}
use Rattle.definitions.specs.Record.{Contents, type_number, sub_type_number, laid_out, all_one}
use Rattle.definitions.specs.Inheriting.{intra_set, mostly_intra, inherited_motions, motion_at, chosen, unused}
use Rattle.definitions.specs.Detail.{detail_at}
use Rattle.definitions.specs.Fed.{Fed, fed_at}
use Rattle.definitions.specs.Raster.{base_address}

-- The answer names class and first base column and row.
unfoldable pub origin_at : Axes → ℕ → ℕ → Origin
origin_at g column row =
    let h = step_of g.horizontal (sample_of column) in
    let v = step_of g.vertical (sample_of row) in
    record { class = class_of h.two v.two; column = h.first; row = v.first }

-- what an answer inside says besides its split: what it names, its detail (document 02, E7), and what fed it (E5)
unfoldable pub basis_at : Axes → List ℤ → ℕ → ℕ → Basis
basis_at g base column row =
    let fed = fed_at g column row in
    record { origin = origin_at g column row; detail = detail_at g base column row; first = fed.first; right = fed.right; below = fed.below; diagonal = fed.diagonal }

-- The answer is outside, intra, or inherited with a split.
unfoldable pub answer_of : Axes → List ℤ → ℕ → ℕ → Answer
answer_of g base column row =
    pick (inside g column row)
    (pick (mostly_intra (intra_set g base column row))
    (Intra (basis_at g base column row))
    (Inherited (basis_at g base column row) (chosen (inherited_motions g base column row))))
    Outside

-- The papers' values for each case of the answer: its type; class, first base column and row (0 outside, class Corner); its detail, 0 outside; and the counts of what fed it, all 0
-- outside
abbrev pub answer_type : Answer → ℕ
answer_type Outside = 5
answer_type (Intra b) = 0
answer_type (Inherited b s) = type_number s

abbrev pub outside_origin : Origin
outside_origin = record { class = Corner; column = 0; row = 0 }

abbrev pub outside_basis : Basis
outside_basis = record { origin = outside_origin; detail = 0; first = 0; right = 0; below = 0; diagonal = 0 }

abbrev pub answer_basis : Answer → Basis
answer_basis Outside = outside_basis
answer_basis (Intra b) = b
answer_basis (Inherited b s) = b

abbrev pub answer_origin : Answer → Origin
answer_origin a = (answer_basis a).origin

abbrev pub answer_detail : Answer → ℕ
answer_detail a = (answer_basis a).detail

abbrev pub answer_fed : Answer → Fed
answer_fed a = record { first = (answer_basis a).first; right = (answer_basis a).right; below = (answer_basis a).below; diagonal = (answer_basis a).diagonal }

-- the same with other bits
abbrev with_detail : ℕ → Basis → Basis
with_detail d b = record { origin = b.origin; detail = d; first = b.first; right = b.right; below = b.below; diagonal = b.diagonal }

-- the same answer with other bits; outside there are none
abbrev pub with_bits : ℕ → Answer → Answer
with_bits d Outside = Outside
with_bits d (Intra b) = Intra (with_detail d b)
with_bits d (Inherited b s) = Inherited (with_detail d b) s

-- The base macroblocks that an answer names are those that its class reads, from its first column and row on; outside there are none.
abbrev pub two_columns : Class → Bool
two_columns Corner = false
two_columns Vert = true
two_columns Hori = false
two_columns Center = true

abbrev pub two_rows : Class → Bool
two_rows Corner = false
two_rows Vert = false
two_rows Hori = true
two_rows Center = true

-- its columns, and its rows
abbrev pub columns_of : Origin → List ℕ
columns_of o = columns_read o.column (two_columns o.class)

abbrev pub rows_of : Origin → List ℕ
rows_of o = columns_read o.row (two_rows o.class)

-- their addresses, in raster order and so in rising order
unfoldable pub addresses_of : Axes → Origin → List ℕ
addresses_of g o = for_each (rows_of o) (λ row. map (λ column. base_address g column row) (columns_of o))

abbrev pub columns_named : Answer → List ℕ
columns_named Outside = []
columns_named (Intra b) = columns_of b.origin
columns_named (Inherited b s) = columns_of b.origin

abbrev pub rows_named : Answer → List ℕ
rows_named Outside = []
rows_named (Intra b) = rows_of b.origin
rows_named (Inherited b s) = rows_of b.origin

abbrev pub addresses_named : Axes → Answer → List ℕ
addresses_named g Outside = []
addresses_named g (Intra b) = addresses_of g b.origin
addresses_named g (Inherited b s) = addresses_of g b.origin

-- Inherited, the written record is laid out as above, sub-types 0 unless type 4. (Its last word is the answer's detail, here and below.)
abbrev pub sub_types : Split → List ℕ
sub_types S16x16 = 0 ∷ 0 ∷ 0 ∷ 0 ∷ []
sub_types S16x8 = 0 ∷ 0 ∷ 0 ∷ 0 ∷ []
sub_types S8x16 = 0 ∷ 0 ∷ 0 ∷ 0 ∷ []
sub_types (Quarters t) = sub_type_number t.a ∷ sub_type_number t.b ∷ sub_type_number t.c ∷ sub_type_number t.d ∷ []

abbrev pub divided_by : Split → (ℕ → Motion) → ℤ → Contents
divided_by s m detail = record { kind = type_number s; sub = λ q. get_or (sub_types s) q 0; motion = m; detail = detail }

-- Otherwise it has type 0 for intra or 5 for outside, sub-types 0, references −1, vectors 0.
abbrev pub unused_motion : Motion
unused_motion = record { list0 = unused; list1 = unused }

abbrev pub without_motion : ℕ → ℤ → List ℤ
without_motion type detail = laid_out (all_one type unused_motion detail)

unfoldable pub written_for : Answer → List (List Motion) → List ℤ
written_for Outside m = without_motion 5 (pos 0)
written_for (Intra b) m = without_motion 0 (pos b.detail)
written_for (Inherited b s) m = laid_out (divided_by s (motion_at m) (pos b.detail))

-- what is made of one macroblock: the answer and its written record
pub record Made : Type 0 where
  pub answer : Answer
  pub written : List ℤ

unfoldable pub made_of : Axes → List ℤ → ℕ → ℕ → Made
made_of g base column row =
    let answer = answer_of g base column row in
    record { answer = answer; written = written_for answer (inherited_motions g base column row) }
