-- Demand 3 of the buyer (document 00) as document 01 reads it ("For demand 3"): one record type, with a field for each sentence of the demand, two for document 02's E7 and one for its E5.
use Rattle.std.specs.Prelude.{ℕ, ◌*◌, ◌≤◌, ◌<◌, ◌≡◌, ◌≢◌, ◌↔◌, true, false, ℤ, pos, nat_abs, length, take, ◌≤ℤ◌, ◌<ℤ◌}
use mathlib.Core.List.{List, ◌∷◌, map, Memᴰ}
use Rattle.definitions.specs.declared.Axes.{Axes}
use Rattle.definitions.specs.declared.Numbers.{Numbers}
use Rattle.definitions.specs.declared.Counts.{Counts}
use Rattle.definitions.specs.Replies.{Accepted}
use Rattle.definitions.specs.declared.Class.TheVariants.{Corner}
use Rattle.definitions.specs.declared.Origin.{Origin}
use Rattle.definitions.specs.declared.Basis.{Basis}
use Rattle.definitions.specs.declared.Split.{Split}
use Rattle.definitions.specs.declared.Answer.{Answer}
use Rattle.definitions.specs.declared.Answer.TheVariants.{Outside, Intra, Inherited}
use Rattle.std.specs.Prelude.{Ok as Answered}
use Rattle.std.specs.Prelude.{Ok as Counted}
use Rattle.definitions.specs.Basics.{pick}
use Rattle.definitions.specs.Geometry.{axes_of, base_size, full_size, macroblocks, inside}
use Rattle.definitions.specs.Splits.{Covers, pieces, one_each, count}
use Rattle.definitions.specs.Record.{record_words, record_at, well_formed, motion_of, detail_of, type_number, split_said}
use Rattle.definitions.specs.Inheriting.{blocks_reading_intra, inherited_motions, motion_at}
use Rattle.definitions.specs.Answer.{origin_at, answer_origin, answer_detail, answer_fed, columns_named, rows_named, addresses_named, sub_types, unused_motion}
use Rattle.definitions.specs.Detail.{detail_at}
use Rattle.definitions.specs.Fed.{Fed, fed_at}
use Rattle.definitions.specs.Refusals.{geometry_verdict, addresses_read, AllFormed}
use Rattle.definitions.specs.Calls.{macroblock_call, picture_call}
use Rattle.definitions.specs.Raster.{base_count, full_count, full_address}

-- what document 01 names for a macroblock: outside class Corner, column and row 0
abbrev pub origin_by_paper : Axes → ℕ → ℕ → Origin
origin_by_paper g column row = pick (inside g column row) (origin_at g column row) (record { class = Corner; column = 0; row = 0 })

-- and the detail bits of document 02's E7: outside 0
abbrev pub detail_by_paper : Axes → List ℤ → ℕ → ℕ → ℕ
detail_by_paper g base column row = pick (inside g column row) (detail_at g base column row) 0

-- and the counts of its E5: outside all 0
abbrev pub fed_by_paper : Axes → ℕ → ℕ → Fed
fed_by_paper g column row = pick (inside g column row) (fed_at g column row) (record { first = 0; right = 0; below = 0; diagonal = 0 })

-- The answer and the written record of the macroblock at a column and row, on a base. Other says which bases are compared with it, and Gives that on
-- a base a call hands over an answer and a written record. Motions are those read back from the written words, and their first five say the split.
pub record Demand3 (g : Axes) (column row : ℕ) (base : List ℤ) (answer : Answer) (written : List ℤ) (Other : List ℤ → Type 0) (Gives : List ℤ → Answer → List ℤ → Type 0) : Type 0 where
  -- The answer's class and first base column and row are document 01's,
  pub class : (answer_origin answer).class ≡ (origin_by_paper g column row).class
  pub first-column : (answer_origin answer).column ≡ (origin_by_paper g column row).column
  pub first-row : (answer_origin answer).row ≡ (origin_by_paper g column row).row
  -- and it names only base macroblocks inside the base picture.
  pub columns-inside : (x : ℕ) → Memᴰ x (columns_named answer) → x < macroblocks (base_size g.horizontal)
  pub rows_inside : (y : ℕ) → Memᴰ y (rows_named answer) → y < macroblocks (base_size g.vertical)
  -- Whatever the other base records hold, the answer and its written record are the same.
  pub others : (other : List ℤ) → Other other → ((a : ℕ) → Memᴰ a (addresses_named g answer) → record_at other a ≡ record_at base a) → Gives other answer written
  -- It is inherited exactly when the macroblock is inside the window and at most eight of its sixteen blocks read intra macroblocks,
  pub inherited : ((b : Basis) × (s : Split) × (answer ≡ Inherited b s)) ↔ ((inside g column row ≡ true) × (blocks_reading_intra g base column row ≤ 8))
  -- and intra exactly when it is inside and nine or more do;
  pub intra : ((b : Basis) × (answer ≡ Intra b)) ↔ ((inside g column row ≡ true) × (9 ≤ blocks_reading_intra g base column row))
  -- outside the window it inherits nothing.
  pub outside : (answer ≡ Outside) ↔ (inside g column row ≡ false)
  pub nothing : inside g column row ≡ false → (i : ℕ) → i < 16 → motion_of written i ≡ unused_motion
  -- Inherited, its pieces cover the sixteen blocks once each,
  pub cover : (b : Basis) (s : Split) → answer ≡ Inherited b s → Covers (pieces s)
  -- with one motion in each;
  pub one-motion : (b : Basis) (s : Split) → answer ≡ Inherited b s → one_each (motion_of written) s ≡ true
  -- each block has the motion that document 01's block map and steps fix;
  pub motions : (b : Basis) (s : Split) → answer ≡ Inherited b s → (i : ℕ) → i < 16 → motion_of written i ≡ motion_at (inherited_motions g base column row) i
  -- and every other of the 259 splits whose pieces each carry one motion has more pieces. (The type has no split but those: proofs/Pieces, all_listed.)
  pub rivals : (b : Basis) (s : Split) → answer ≡ Inherited b s → (t : Split) → one_each (motion_of written) t ≡ true → t ≢ s → count s < count t
  -- Inherited, words 0 to 4 of the written record say the answer's split.
  pub says-split : (b : Basis) (s : Split) → answer ≡ Inherited b s → take 5 written ≡ pos (type_number s) ∷ map pos (sub_types s)
  -- (And read as a base record, it says that split.)
  pub split-said : (b : Basis) (s : Split) → answer ≡ Inherited b s → split_said written ≡ s
  -- (Document 02, E7.) A quadrant's bit is set exactly when one of its blocks reads a base quadrant whose bit is set; outside all are 0. Word 77 of the written record says them.
  pub detail : answer_detail answer ≡ detail_by_paper g base column row
  pub says-detail : detail_of written ≡ pos (answer_detail answer)
  -- (E5.) Its counts are those of the blocks that read each of the four base macroblocks by the map; outside all are 0.
  pub fed : answer_fed answer ≡ fed_by_paper g column row

-- Made singly: the other records may hold any words.
abbrev pub AnyWords : List ℤ → List ℤ → Type 0
AnyWords base other = length other ≡ length base

abbrev pub SinglyGives : ℕ → Numbers → ℕ → ℕ → List ℤ → List ℤ → Answer → List ℤ → Type 0
SinglyGives limit n column row words base answer written = macroblock_call limit n base (pos column) (pos row) words ≡ record { reply = Answered answer; words = written }

abbrev pub Demand3Singly : ℕ → Numbers → ℕ → ℕ → List ℤ → List ℤ → Answer → List ℤ → Type 0
Demand3Singly limit n column row words base answer written =
    Demand3 (axes_of n) column row base answer written (AnyWords base) (SinglyGives limit n column row words)

-- Made with the whole picture: the other records are any well-formed ones, the answer is the one-macroblock call's on the same base, and the written
-- record is the one at the macroblock's address. (alone: 78 words lent to the one-macroblock call, whatever they hold.)
abbrev pub FormedWords : ℕ → Axes → List ℤ → List ℤ → Type 0
FormedWords limit g base other = (length other ≡ length base) × AllFormed limit g other

pub record PictureGives (limit : ℕ) (n : Numbers) (column row : ℕ) (words alone base : List ℤ) (answer : Answer) (written : List ℤ) : Type 0 where
  pub counts : Counts
  pub accepted : (picture_call limit n base words).reply ≡ Counted counts
  pub answered : (macroblock_call limit n base (pos column) (pos row) alone).reply ≡ Answered answer
  pub at_address : record_at (picture_call limit n base words).words (full_address (axes_of n) column row) ≡ written

abbrev pub Demand3Picture : ℕ → Numbers → ℕ → ℕ → List ℤ → List ℤ → List ℤ → Answer → List ℤ → Type 0
Demand3Picture limit n column row words alone base answer written =
    Demand3 (axes_of n) column row base answer written (FormedWords limit (axes_of n) base) (PictureGives limit n column row words alone)

-- Every accepted geometry, every base picture of well-formed records, and every macroblock
pub record Case (limit : ℕ) (n : Numbers) (column row : ℕ) (base : List ℤ) : Type 0 where
  pub geometry : geometry_verdict n ≡ Accepted
  pub base-length : length base ≡ record_words * base_count (axes_of n)
  pub formed : AllFormed limit (axes_of n) base
  pub column-within : column < macroblocks (full_size (axes_of n).horizontal)
  pub row_within : row < macroblocks (full_size (axes_of n).vertical)

-- What each call is lent in such a case: words of the right lengths besides. Singly, only those records have to be well formed that its answer will name
-- (addresses_read, those that its class reads; outside none. That they are the same: proofs/Demand, read_named).
pub record SinglyCase (limit : ℕ) (n : Numbers) (column row : ℤ) (base words : List ℤ) : Type 0 where
  pub geometry : geometry_verdict n ≡ Accepted
  pub base-length : length base ≡ record_words * base_count (axes_of n)
  pub words-length : length words ≡ record_words
  pub column-low : pos 0 ≤ℤ column
  pub column-high : column <ℤ pos (macroblocks (full_size (axes_of n).horizontal))
  pub row_low : pos 0 ≤ℤ row
  pub row-high : row <ℤ pos (macroblocks (full_size (axes_of n).vertical))
  pub formed : (a : ℕ) → Memᴰ a (addresses_read (axes_of n) (nat_abs column) (nat_abs row)) → well_formed limit (record_at base a) ≡ true

pub record PictureCase (limit : ℕ) (n : Numbers) (base words : List ℤ) : Type 0 where
  pub geometry : geometry_verdict n ≡ Accepted
  pub base-length : length base ≡ record_words * base_count (axes_of n)
  pub words-length : length words ≡ record_words * full_count (axes_of n)
  pub formed : AllFormed limit (axes_of n) base

-- Demand 3, entire: in each such case, with the words that the calls ask for, both calls hand something over, and all that they hand over, there or
-- anywhere, is as demanded. (Singly that is so wherever the call answers, whatever the records hold that it does not name.)
pub record Demand3Entire (limit : ℕ) : Type 0 where
  pub singly : (n : Numbers) (column row : ℕ) (words base : List ℤ) (answer : Answer) (written : List ℤ)
      → SinglyGives limit n column row words base answer written → Demand3Singly limit n column row words base answer written
  pub singly-given : (n : Numbers) (column row : ℕ) (words base : List ℤ) → SinglyCase limit n (pos column) (pos row) base words
      → (answer : Answer) × (written : List ℤ) × SinglyGives limit n column row words base answer written
  pub picture : (n : Numbers) (column row : ℕ) (words alone base : List ℤ) (answer : Answer) (written : List ℤ)
      → PictureGives limit n column row words alone base answer written → Demand3Picture limit n column row words alone base answer written
  pub picture-given : (n : Numbers) (column row : ℕ) (words alone base : List ℤ) → PictureCase limit n base words
      → column < macroblocks (full_size (axes_of n).horizontal) → row < macroblocks (full_size (axes_of n).vertical) → length alone ≡ record_words
      → (answer : Answer) × (written : List ℤ) × PictureGives limit n column row words alone base answer written
  -- (each case of the demand is one of both calls)
  pub case-singly : (n : Numbers) (column row : ℕ) (base words : List ℤ) → Case limit n column row base → length words ≡ record_words
      → SinglyCase limit n (pos column) (pos row) base words
  pub case-picture : (n : Numbers) (column row : ℕ) (base words : List ℤ) → Case limit n column row base → length words ≡ record_words * full_count (axes_of n)
      → PictureCase limit n base words
