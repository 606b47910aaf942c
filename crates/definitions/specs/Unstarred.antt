-- Examples that document 01 does not star, in one table beside the starred one (Examples). With it and the laws they are there so that a definition changed alike with
-- its code is refused: the wrong ones that were tried are. Records are given by their words, and what is expected by numbers that were worked out apart from these definitions.
use Rattle.std.specs.Prelude.{ℕ, zero, suc, ◌+◌, ◌*◌, ◌≡◌, refl, Bool, true, false, List, [], ◌∷◌, ◌++◌, map, ℤ, pos, length, replicate, drop, set}
use Rattle.std.specs.Int.Count.{ones, ones_in}
use Rattle.definitions.specs.declared.AxisNumbers.{AxisNumbers}
use Rattle.definitions.specs.declared.Numbers.{Numbers}
use Rattle.definitions.specs.declared.Class.{Class}
use Rattle.definitions.specs.declared.Class.TheVariants.{Corner, Vert, Hori, Center}
use Rattle.definitions.specs.declared.SubSplit.{SubSplit}
use Rattle.definitions.specs.declared.SubSplit.TheVariants.{S8x8, S8x4, S4x8, S4x4}
use Rattle.definitions.specs.declared.Split.{Split}
use Rattle.definitions.specs.declared.Split.TheVariants.{S16x16, S16x8, S8x16, S8x8 as Quarters}
use Rattle.definitions.specs.declared.Axes.{Axes}
use Rattle.definitions.specs.declared.Basis.{Basis}
use Rattle.definitions.specs.declared.Answer.{Answer}
use Rattle.definitions.specs.declared.Answer.TheVariants.{Outside, Intra, Inherited}
use Rattle.definitions.specs.Replies.{Verdict, Accepted}
use Rattle.std.specs.Prelude.{Err as Refused}
use Rattle.definitions.specs.declared.Refusal.{Refusal}
use Rattle.definitions.specs.Replies.{TextReply, NoPicture, Read}
use Rattle.std.specs.Prelude.{Err as NotRead}
use Rattle.definitions.specs.declared.AxisStep.{AxisStep}
use Rattle.definitions.specs.Replies.{PictureReply}
use Rattle.std.specs.Prelude.{Err as NotMade}
use Rattle.definitions.specs.Replies.{LogReply}
use Rattle.std.specs.Prelude.{Ok as Written, Err as NotWritten}
use Rattle.definitions.specs.Replies.{MacroblockReply}
use Rattle.std.specs.Prelude.{Ok as Answered, Err as Declined}
use Rattle.definitions.specs.Basics.{pick, minus, all_below, all_of, up_to, for_each, set_of, some_of, how_many}
use Rattle.definitions.specs.Raster.{base_address}
use Rattle.definitions.specs.Geometry.{axis_of, inside_axis, m_of, n_of, f_of, two_of, columns_read}
use Rattle.definitions.specs.BlockMap.{digits_of, coordinate_of, step_of, address_read, block_read}
use Rattle.definitions.specs.Splits.{same_motion, same_prediction, alike, one_each, fewest_in}
use Rattle.definitions.specs.Record.{record_at, motion_of, split_said, rule1, rule2, rule3, rule4, rule5, rule6, rule7, first_broken, narrow, laid_out}
use Rattle.definitions.specs.Inheriting.{intra_set, gathered, source, clear_of, filled, lower, lowest, having, merged_list, merged, live_of, copied_from, copied, resolved, scaled_prediction, scaled_motion, inherited_motions}
use Rattle.definitions.specs.Detail.{quadrant_detail, detail_at}
use Rattle.definitions.specs.Fed.{Fed, blocks_reading, fed_at}
use Rattle.definitions.specs.Answer.{origin_at, basis_at, answer_of, columns_named, rows_named, addresses_named, addresses_of, written_for, made_of}
use Rattle.definitions.specs.Refusals.{refusal, geometry_tests, geometry_verdict, record_tests, addresses_read}
use Rattle.definitions.specs.Calls.{Outcome, macroblock_tests, macroblock_call, picture_tests, picture_call, made_at, counts_of}
use Rattle.definitions.specs.Text.{RecordKind, Entry, intra, whole, mb, whole_line, LineOf, Note, Text, BreaksAt, base_of, Reading, empty, not_read, read_as, Reads, TextAnswer}
use Rattle.definitions.specs.Log.{digits_in, decimal, line_of, macroblock_line, sync_line, picture_lines, refused_line, program_tests, judged, log_for, finding_of, verdict_for, empty_for, LogOf, LogAnswer}

-- ---- What is expected
pub data Instance : Type 0 where
  -- the one-macroblock call on a geometry and a base, at a column and row, with so many words lent: what it hands over
  call : Numbers → List ℤ → ℤ → ℤ → ℕ → Outcome MacroblockReply → Instance
  -- the picture call, with so many words lent: its refusal
  picture : Numbers → List ℤ → ℕ → Refusal → Instance
  -- an axis, and a macroblock's first sample: what the axis gives
  step : AxisNumbers → ℕ → AxisStep → Instance
  -- which of a quadrant's four blocks serve: the one that each takes from
  takes : List Bool → List ℕ → Instance
  -- a geometry: the number by which it is refused, or 0
  geometry : Numbers → ℕ → Instance
  -- a record: its first broken rule, or 0
  rule : List ℤ → ℕ → Instance
  -- record lines: the words of their records
  lines : List Entry → List ℤ → Instance
  -- a geometry with record lines: its log
  log : Numbers → List Entry → List ℕ → Instance

abbrev verdict_by : ℕ → Verdict
verdict_by zero = Accepted
verdict_by (suc n) = Refused (refusal (suc n))

-- what the definitions give, and what is expected
pub data Result : Type 0 where
  outcome : Outcome MacroblockReply → Result
  replied : PictureReply → Result
  axis_is : AxisStep → Result
  from : List ℕ → Result
  verdict : Verdict → Result
  broken : ℕ → Result
  words_are : List ℤ → Result
  bytes : List ℕ → Result

abbrev pub given : Instance → Result
given (call n base column row lent_count o) = outcome (macroblock_call narrow n base column row (replicate lent_count (pos 0)))
given (picture n base lent_count r) = replied (picture_call narrow n base (replicate lent_count (pos 0))).reply
given (step n p s) = axis_is (step_of (axis_of n) p)
given (takes good l) = from (up_to 4 (source good))
given (geometry n k) = verdict (geometry_verdict n)
given (rule r k) = broken (first_broken narrow r)
given (lines entries w) = words_are (base_of entries)
given (log n entries l) = bytes (log_for (judged n (length entries) (base_of entries)))

abbrev pub expected : Instance → Result
expected (call n base column row lent_count o) = outcome o
expected (picture n base lent_count r) = replied (NotMade r)
expected (step n p s) = axis_is s
expected (takes good l) = from l
expected (geometry n k) = verdict (verdict_by k)
expected (rule r k) = broken k
expected (lines entries w) = words_are w
expected (log n entries l) = bytes l

-- ---- Geometries: B, S, o and E of an axis, across and down
abbrev axis_with : ℤ → ℤ → ℤ → ℤ → AxisNumbers
axis_with b s o e = record { base = b; scaled = s; offset = o; full = e }

abbrev by : AxisNumbers → AxisNumbers → Numbers
by h v = record { horizontal = h; vertical = v }

-- nothing is wrong with this one
abbrev plain : AxisNumbers
plain = axis_with (pos 16) (pos 16) (pos 0) (pos 16)

-- one axis at a limit, the other plain
abbrev with_across : ℤ → ℤ → ℤ → ℤ → Numbers
with_across b s o e = by (axis_with b s o e) plain

abbrev with_down : ℤ → ℤ → ℤ → ℤ → Numbers
with_down b s o e = by plain (axis_with b s o e)

-- ---- Records by their words: type, sub-types, references, vector words, detail
abbrev detailed : ℤ → List ℤ → List ℤ → List ℤ → ℤ → List ℤ
detailed type sub references vectors detail = type ∷ (sub ++ (references ++ (vectors ++ (detail ∷ []))))

-- the same without detail
abbrev words : ℤ → List ℤ → List ℤ → List ℤ → List ℤ
words type sub references vectors = detailed type sub references vectors (pos 0)

abbrev list_of4 : ℤ → ℤ → ℤ → ℤ → List ℤ
list_of4 a b c d = a ∷ b ∷ c ∷ d ∷ []

abbrev no_sub : List ℤ
no_sub = list_of4 (pos 0) (pos 0) (pos 0) (pos 0)

-- references of list 0 and list 1, the same in each quadrant
abbrev both : ℤ → ℤ → List ℤ
both a b = list_of4 a b a b ++ list_of4 a b a b

-- a block's vector words: in list 0, in list 1
abbrev block : ℕ → ℕ → ℕ → ℕ → List ℤ
block a b c d = list_of4 (pos a) (pos b) (pos c) (pos d)

-- four blocks, four rows
abbrev row_of4 : List ℤ → List ℤ → List ℤ → List ℤ → List ℤ
row_of4 a b c d = a ++ (b ++ (c ++ d))

abbrev of_all : List ℤ → List ℤ
of_all v = row_of4 v v v v

abbrev all_blocks : List ℤ → List ℤ
all_blocks v = of_all (of_all v)

-- 64 words that are all different, from n on
abbrev rising : ℕ → List ℤ
rising n = up_to 64 (λ w. pos (w + n))

-- one vector in all blocks, in list 0 or in list 1, with reference r
abbrev first_list : ℕ → ℕ → ℕ → List ℤ
first_list r x y = words (pos 1) no_sub (both (pos r) (minus 1)) (all_blocks (block x y 0 0))

abbrev second_list : ℕ → ℕ → ℕ → List ℤ
second_list r x y = words (pos 1) no_sub (both (minus 1) (pos r)) (all_blocks (block 0 0 x y))

abbrev no_motion : List ℤ
no_motion = words (pos 0) no_sub (both (minus 1) (minus 1)) (all_blocks (block 0 0 0 0))

-- the four counts of what fed it
abbrev fed : ℕ → ℕ → ℕ → ℕ → Fed
fed a b c d = record { first = a; right = b; below = c; diagonal = d }

-- a class from a column and row 0 on, with this detail, fed so
abbrev of_class : Class → ℕ → ℕ → Fed → Basis
of_class class column detail f =
    record { origin = record { class = class; column = column; row = 0 }; detail = detail; first = f.first; right = f.right; below = f.below; diagonal = f.diagonal }

-- the macroblock is inherited, with a class from column and row 0 on, without detail, fed so, with a split, and these words
abbrev inherits : Class → Fed → Split → List ℤ → Outcome MacroblockReply
inherits class f split w = record { reply = Answered (Inherited (of_class class 0 0 f) split); words = w }

-- a record with another last word
abbrev with_detail : ℕ → List ℤ → List ℤ
with_detail d r = set r 77 (pos d)

-- 8×8 with sub-types by quadrant
abbrev quarters : SubSplit → SubSplit → SubSplit → SubSplit → Split
quarters a b c d = Quarters (record { a = a; b = b; c = c; d = d })

-- refused, so many words are left as they were
abbrev declines : ℕ → ℕ → ℕ → ℕ → Outcome MacroblockReply
declines left number place rule_broken = record { reply = Declined (record { number = number; place = place; rule = rule_broken }); words = replicate left (pos 0) }

-- ---- Macroblocks
-- references that differ by quadrant, each vector 0 where they are −1; sub-types 0 1 2 3 in order
abbrev various : List ℤ
various =
    words (pos 4) (list_of4 (pos 0) (pos 1) (pos 2) (pos 3)) (list_of4 (pos 0) (minus 1) (pos 1) (pos 5) ++ list_of4 (minus 1) (pos 7) (pos 3) (minus 1))
    (row_of4 (row_of4 (block 1 2 0 0) (block 1 2 0 0) (block 3 4 5 6) (block 3 4 5 6)) (row_of4 (block 1 2 0 0) (block 1 2 0 0) (block 7 8 9 10) (block 7 8 9 10))
    (row_of4 (block 0 0 11 12) (block 0 0 13 14) (block 15 16 0 0) (block 17 18 0 0)) (row_of4 (block 0 0 11 12) (block 0 0 13 14) (block 19 20 0 0) (block 21 22 0 0)))

-- all vector words differ; the second is the first and 100 more
abbrev differing : List ℤ
differing =
    words (pos 4) (list_of4 (pos 3) (pos 3) (pos 3) (pos 3)) (both (pos 0) (pos 2)) (rising 1)
    ++ words (pos 4) (list_of4 (pos 3) (pos 3) (pos 3) (pos 3)) (both (pos 0) (pos 2)) (rising 101)

-- ratio 2 in one direction, 3/2 in the other: two columns of one row, and two rows of one column. By ratio 2 blocks read base blocks 3, 3, 3 and 4; by 3/2 0, 0, 1 and 2.
abbrev broad : Numbers
broad = by (axis_with (pos 32) (pos 64) (pos 10) (pos 64)) (axis_with (pos 16) (pos 24) (pos 0) (pos 16))

abbrev tall : Numbers
tall = by (axis_with (pos 16) (pos 24) (pos 0) (pos 16)) (axis_with (pos 32) (pos 64) (pos 10) (pos 64))

abbrev in_broad : List ℤ
in_broad =
    let a = block 26 21 30 24 in
    let b = block 202 153 206 156 in
    let c = block 58 45 62 48 in
    let e = block 90 69 94 72 in
    words (pos 4) (list_of4 (pos 0) (pos 2) (pos 1) (pos 3)) (both (pos 0) (pos 2))
    (row_of4 (row_of4 a a a b) (row_of4 a a a b) (row_of4 c c c (block 234 177 238 180)) (row_of4 e e e (block 266 201 270 204)))

abbrev in_tall : List ℤ
in_tall =
    let r = row_of4 (block 74 100 77 104) (block 74 100 77 104) (block 80 108 83 112) (block 86 116 89 120) in
    words (pos 4) (list_of4 (pos 0) (pos 2) (pos 1) (pos 3)) (both (pos 0) (pos 2))
    (row_of4 r r r (row_of4 (block 152 204 155 208) (block 152 204 155 208) (block 158 212 161 216) (block 164 220 167 224)))

-- the starred macroblock at 16,16 (B and S 32, o 4): the first quadrant's blocks read base 0, 1, 2 and 3, one each
abbrev centre : Numbers
centre = by (axis_with (pos 32) (pos 32) (pos 4) (pos 32)) (axis_with (pos 32) (pos 32) (pos 4) (pos 32))

-- block 0 has base 1's motion, on its right, and not base 2's, below it
abbrev from_right : (ℕ → ℕ → List ℤ) → List ℤ
from_right at =
    let a = at 1 2 in
    let b = at 3 4 in
    let c = at 5 6 in
    row_of4 (of_all a) (row_of4 b c c c) (row_of4 b c c c) (row_of4 b c c c)

-- ratio 2, the base's middle in the middle of the macroblock: a quadrant to each base macroblock
abbrev twice_as_large : Numbers
twice_as_large = by (axis_with (pos 32) (pos 64) (pos 8) (pos 48)) (axis_with (pos 32) (pos 64) (pos 8) (pos 48))

-- ratio 1, the base's middle in the middle of the macroblock: a quadrant to each base macroblock, of four of its blocks
abbrev shifted : Numbers
shifted = by (axis_with (pos 32) (pos 32) (pos 8) (pos 32)) (axis_with (pos 32) (pos 32) (pos 8) (pos 32))

abbrev copied_there : List ℤ
copied_there =
    let r = row_of4 (block 3 4 0 0) (block 3 4 0 0) (block 5 6 0 0) (block 5 6 0 0) in
    words (pos 4) (list_of4 (pos 3) (pos 3) (pos 0) (pos 0)) (list_of4 (pos 0) (pos 2) (pos 0) (pos 2) ++ list_of4 (pos 0) (minus 1) (pos 0) (minus 1))
    (row_of4 (row_of4 (block 33 34 35 36) (block 37 38 39 40) (block 33 34 35 36) (block 37 38 39 40))
    (row_of4 (block 49 50 51 52) (block 53 54 55 56) (block 49 50 51 52) (block 53 54 55 56)) r r)

-- ---- Limits and orders
-- a record (of type 1 with one motion, reference 0 in list 0) with one thing changed
abbrev of_type : ℤ → List ℤ
of_type t = words t no_sub (both (pos 0) (minus 1)) (all_blocks (block 1 2 0 0))

abbrev of_sub : ℤ → List ℤ → List ℤ
of_sub t sub = words t sub (both (pos 0) (minus 1)) (all_blocks (block 1 2 0 0))

abbrev of_references : List ℤ → List ℤ
of_references r = words (pos 1) no_sub r (all_blocks (block 0 0 0 0))

abbrev of_vector : ℤ → ℤ → List ℤ
of_vector x y = words (pos 1) no_sub (both (pos 0) (minus 1)) (all_blocks (list_of4 x y (pos 0) (pos 0)))

-- the upper half of the blocks differs from the lower, and the left from the right
abbrev halves : ℤ → List ℤ
halves t =
    words t no_sub (both (pos 0) (minus 1)) (row_of4 (of_all (block 1 2 0 0)) (of_all (block 1 2 0 0)) (of_all (block 3 4 0 0)) (of_all (block 3 4 0 0)))

abbrev sides : ℤ → List ℤ
sides t =
    words t no_sub (both (pos 0) (minus 1)) (of_all (row_of4 (block 1 2 0 0) (block 1 2 0 0) (block 3 4 0 0) (block 3 4 0 0)))

-- the references of one quadrant, the others being 0 and −1
abbrev one_quadrant : ℤ → ℤ → List ℤ
one_quadrant a b = list_of4 a b (pos 0) (minus 1) ++ list_of4 (pos 0) (minus 1) (pos 0) (minus 1)

abbrev entry : RecordKind → List ℤ → Entry
entry k v = record { kind = k; fields = v }

-- (refused 5 0), (refused 8 1)
abbrev pub refused_log : ℕ → ℕ → List ℕ
refused_log number place = 40 ∷ 114 ∷ 101 ∷ 102 ∷ 117 ∷ 115 ∷ 101 ∷ 100 ∷ 32 ∷ (48 + number) ∷ 32 ∷ (48 + place) ∷ 41 ∷ 10 ∷ []

-- The clip of docs/WHY.md
abbrev clip : Numbers
clip = by (axis_with (pos 32) (pos 48) (pos 4) (pos 64)) plain

abbrev clip_record : ℤ → Entry
clip_record x = entry whole (list_of4 (pos 0) (minus 1) x (minus 8) ++ (pos 0 ∷ pos 0 ∷ pos 0 ∷ []))

abbrev clip_words : List ℤ
clip_words =
    let a = list_of4 (pos 5) (minus 8) (pos 0) (pos 0) in
    words (pos 4) (list_of4 (pos 0) (pos 2) (pos 0) (pos 2)) (both (pos 0) (minus 1)) (of_all (row_of4 a a a (list_of4 (pos 11) (minus 8) (pos 0) (pos 0))))

abbrev clip_log : List ℕ
clip_log =
    (40 ∷ 109 ∷ 98 ∷ 32 ∷ 48 ∷ 32 ∷ 48 ∷ 32 ∷ 53 ∷ 32 ∷ 48 ∷ 41 ∷ 10 ∷ [])
    ++ ((40 ∷ 109 ∷ 98 ∷ 32 ∷ 49 ∷ 32 ∷ 48 ∷ 32 ∷ 52 ∷ 32 ∷ 54 ∷ 41 ∷ 10 ∷ [])
    ++ ((40 ∷ 109 ∷ 98 ∷ 32 ∷ 50 ∷ 32 ∷ 48 ∷ 32 ∷ 49 ∷ 32 ∷ 49 ∷ 41 ∷ 10 ∷ [])
    ++ ((40 ∷ 109 ∷ 98 ∷ 32 ∷ 51 ∷ 32 ∷ 48 ∷ 32 ∷ 53 ∷ 32 ∷ 48 ∷ 41 ∷ 10 ∷ [])
    ++ (40 ∷ 115 ∷ 121 ∷ 110 ∷ 99 ∷ 32 ∷ 52 ∷ 32 ∷ 50 ∷ 32 ∷ 48 ∷ 32 ∷ 50 ∷ 41 ∷ 10 ∷ []))))

-- ---- The table
abbrev pub unstarred : List Instance
unstarred =
    -- What a macroblock inherits. At ratio 1 a record is written as it was read;
    call (by plain plain) various (pos 0) (pos 0) 78 (inherits Corner (fed 16 0 0 0) (quarters S8x8 S8x4 S4x8 S4x4) various)
    -- each axis has its own ratio, its own blocks and its own word of a vector; all four sub-types;
    ∷ call broad differing (pos 2) (pos 0) 78 (inherits Vert (fed 12 4 0 0) (quarters S8x8 S4x8 S8x4 S4x4) in_broad)
    ∷ call tall differing (pos 0) (pos 2) 78 (inherits Hori (fed 12 0 4 0) (quarters S8x8 S4x8 S8x4 S4x4) in_tall)
    -- base 0 intra, and base 0 with another reference in list 1: the horizontal neighbour's motion, though the vertical one serves too and differs;
    ∷ call centre (no_motion ++ (first_list 0 1 2 ++ (first_list 0 3 4 ++ first_list 0 5 6))) (pos 1) (pos 1) 78
    (inherits Center (fed 1 3 3 9) (quarters S4x4 S8x4 S4x8 S8x8) (words (pos 4) (list_of4 (pos 3) (pos 1) (pos 2) (pos 0)) (both (pos 0) (minus 1)) (from_right (λ x y. block x y 0 0))))
    ∷ call centre (second_list 1 7 8 ++ (second_list 0 1 2 ++ (second_list 0 3 4 ++ second_list 0 5 6))) (pos 1) (pos 1) 78
    (inherits Center (fed 1 3 3 9) (quarters S4x4 S8x4 S4x8 S8x8) (words (pos 4) (list_of4 (pos 3) (pos 1) (pos 2) (pos 0)) (both (minus 1) (pos 0)) (from_right (λ x y. block 0 0 x y))))
    -- step 3: a quadrant all intra has the horizontal one's motion, though the vertical one differs; where both are, the vertical one's.
    ∷ call twice_as_large (no_motion ++ (first_list 0 1 2 ++ (first_list 0 3 4 ++ first_list 0 3 4))) (pos 2) (pos 2) 78
    (inherits Center (fed 4 4 4 4) S16x8 (words (pos 2) no_sub (both (pos 0) (minus 1)) (row_of4 (of_all (block 2 4 0 0)) (of_all (block 2 4 0 0)) (of_all (block 6 8 0 0)) (of_all (block 6 8 0 0)))))
    ∷ call twice_as_large (no_motion ++ (no_motion ++ (first_list 0 3 4 ++ first_list 0 5 6))) (pos 2) (pos 2) 78
    (inherits Center (fed 4 4 4 4) S8x16 (words (pos 3) no_sub (both (pos 0) (minus 1)) (of_all (row_of4 (block 6 8 0 0) (block 6 8 0 0) (block 10 12 0 0) (block 10 12 0 0)))))
    -- Block for block: quadrant 0, all intra, has the four motions of quadrant 1.
    ∷ call shifted
    (no_motion ++ (words (pos 4) (list_of4 (pos 3) (pos 3) (pos 3) (pos 3)) (both (pos 0) (pos 2)) (rising 1) ++ (first_list 0 3 4 ++ first_list 0 5 6)))
    (pos 1) (pos 1) 78
    (inherits Center (fed 4 4 4 4) (quarters S4x4 S4x4 S8x8 S8x8) copied_there)
    -- Base 0 and 1 intra: the vertical neighbour's motion, though the diagonal one serves too and differs.
    ∷ call centre (no_motion ++ (no_motion ++ (first_list 0 3 4 ++ first_list 0 5 6))) (pos 1) (pos 1) 78
    (inherits Center (fed 1 3 3 9) (quarters S4x8 S8x8 S4x8 S8x8)
    (words (pos 4) (list_of4 (pos 2) (pos 0) (pos 2) (pos 0)) (both (pos 0) (minus 1))
    (of_all (row_of4 (block 3 4 0 0) (block 5 6 0 0) (block 5 6 0 0) (block 5 6 0 0)))))
    -- Detail (document 02, E7). A quadrant to each base macroblock, whose quadrants 3, 2, 1 and 0 are read: base 0, intra, and 3 have that bit, 1 has all others, 2 has none.
    ∷ call shifted
    (with_detail 8 no_motion ++ (with_detail 11 (first_list 0 1 2) ++ (first_list 0 1 2 ++ with_detail 1 (first_list 0 1 2))))
    (pos 1) (pos 1) 78
    (record { reply = Answered (Inherited (of_class Center 0 9 (fed 4 4 4 4)) S16x16); words = with_detail 9 (first_list 0 1 2) })
    -- In the first quadrant four blocks read base 0, 1, 2 and 3, one each: base 1's bit is enough. Quadrant 1 reads base 1's quadrant 2 too; quadrant 2 reads base 2, and base 3's quadrants 0 and 2, none set; quadrant 3 reads base 3's quadrant 3.
    ∷ call centre (first_list 0 1 2 ++ (with_detail 4 (first_list 0 1 2) ++ (first_list 0 1 2 ++ with_detail 8 (first_list 0 1 2)))) (pos 1) (pos 1) 78
    (record { reply = Answered (Inherited (of_class Center 0 11 (fed 1 3 3 9)) S16x16); words = with_detail 11 (first_list 0 1 2) })
    -- An intra answer has its bits, each in its place; outside there is none.
    ∷ call (by plain plain) (with_detail 2 no_motion) (pos 0) (pos 0) 78
    (record { reply = Answered (Intra (of_class Corner 0 2 (fed 16 0 0 0))); words = with_detail 2 no_motion })
    ∷ call (with_across (pos 16) (pos 16) (pos 0) (pos 32)) (with_detail 15 no_motion) (pos 1) (pos 0) 78
    (record { reply = Answered Outside; words = words (pos 5) no_sub (both (minus 1) (minus 1)) (all_blocks (block 0 0 0 0)) })
    -- What fed a macroblock (document 02, E5). In a base one macroblock wide: twelve of its blocks read base 0 and four the one below it, base 1, whose address is that to the right of base 0 too.
    ∷ call (by (axis_with (pos 16) (pos 16) (pos 16) (pos 48)) (axis_with (pos 48) (pos 86) (pos 30) (pos 64))) (no_motion ++ (no_motion ++ no_motion)) (pos 1) (pos 3) 78
    (record { reply = Answered (Intra (of_class Hori 0 0 (fed 12 0 4 0))); words = no_motion })
    -- Limits of a geometry, each on both sides: B, E,
    ∷ geometry (with_across (pos 16) (pos 16) (pos 0) (pos 16)) 0
    ∷ geometry (with_across (pos 4096) (pos 4096) (pos 0) (pos 16)) 0
    ∷ geometry (with_across (pos 0) (pos 0) (pos 0) (pos 16)) 1
    ∷ geometry (with_across (pos 24) (pos 24) (pos 0) (pos 16)) 1
    ∷ geometry (with_across (pos 4112) (pos 4112) (pos 0) (pos 16)) 1
    ∷ geometry (with_down (pos 4112) (pos 4112) (pos 0) (pos 16)) 1
    ∷ geometry (with_across (pos 16) (pos 16) (pos 0) (pos 4096)) 0
    ∷ geometry (with_across (pos 16) (pos 16) (pos 0) (pos 0)) 2
    ∷ geometry (with_across (pos 16) (pos 16) (pos 0) (pos 24)) 2
    ∷ geometry (with_across (pos 16) (pos 16) (pos 0) (pos 4112)) 2
    ∷ geometry (with_down (pos 16) (pos 16) (pos 0) (pos 4112)) 2
    -- S,
    ∷ geometry (with_across (pos 16) (pos 18) (pos 0) (pos 16)) 0
    ∷ geometry (with_across (pos 16) (pos 32) (pos 0) (pos 16)) 0
    ∷ geometry (with_across (pos 16) (pos 14) (pos 0) (pos 16)) 3
    ∷ geometry (with_across (pos 16) (pos 17) (pos 0) (pos 16)) 3
    ∷ geometry (with_across (pos 16) (pos 34) (pos 0) (pos 16)) 3
    ∷ geometry (with_down (pos 16) (pos 34) (pos 0) (pos 16)) 3
    -- and o.
    ∷ geometry (with_across (pos 16) (pos 16) (pos 2) (pos 16)) 0
    ∷ geometry (with_across (pos 16) (pos 16) (minus 8192) (pos 16)) 0
    ∷ geometry (with_across (pos 16) (pos 16) (pos 8190) (pos 16)) 0
    ∷ geometry (with_across (pos 16) (pos 16) (pos 1) (pos 16)) 4
    ∷ geometry (with_across (pos 16) (pos 16) (minus 8194) (pos 16)) 4
    ∷ geometry (with_across (pos 16) (pos 16) (pos 8192) (pos 16)) 4
    ∷ geometry (with_down (pos 16) (pos 16) (pos 8192) (pos 16)) 4
    -- Two neighbouring refusals apply: the lower one is given, on whichever axis it applies.
    ∷ geometry (with_across (pos 8) (pos 8) (pos 0) (pos 8)) 1
    ∷ geometry (by (axis_with (pos 16) (pos 16) (pos 0) (pos 8)) (axis_with (pos 8) (pos 8) (pos 0) (pos 16))) 1
    ∷ geometry (with_across (pos 16) (pos 15) (pos 0) (pos 8)) 2
    ∷ geometry (by (axis_with (pos 16) (pos 15) (pos 0) (pos 16)) (axis_with (pos 16) (pos 16) (pos 0) (pos 8))) 2
    ∷ geometry (with_across (pos 16) (pos 15) (pos 1) (pos 16)) 3
    ∷ geometry (by (axis_with (pos 16) (pos 16) (pos 1) (pos 16)) (axis_with (pos 16) (pos 15) (pos 0) (pos 16))) 3
    ∷ call (with_across (pos 16) (pos 16) (pos 1) (pos 16)) [] (pos 0) (pos 0) 78 (declines 78 4 0 0)
    ∷ call (by plain plain) [] (pos 0) (pos 0) 77 (declines 77 5 0 0)
    ∷ call (by plain plain) no_motion (pos 1) (pos 0) 77 (declines 77 6 0 0)
    ∷ call (with_across (pos 16) (pos 32) (pos 0) (pos 16)) (of_type (pos 5)) (pos 1) (pos 0) 78 (declines 78 7 0 0)
    -- 5, 6 and 7, and 8 with its place and rule
    ∷ call (by plain plain) (no_motion ++ (pos 0 ∷ [])) (pos 0) (pos 0) 78 (declines 78 5 0 0)
    ∷ call (by plain plain) no_motion (pos 0) (pos 0) 79 (declines 79 6 0 0)
    ∷ call (by plain plain) no_motion (minus 1) (pos 0) 78 (declines 78 7 0 0)
    ∷ call (by plain plain) no_motion (pos 0) (pos 1) 78 (declines 78 7 0 0)
    ∷ call (by plain plain) no_motion (pos 0) (minus 1) 78 (declines 78 7 0 0)
    ∷ call (with_across (pos 16) (pos 32) (pos 0) (pos 16)) (of_type (pos 5)) (pos 0) (pos 0) 78 (declines 78 8 0 1)
    ∷ call centre (first_list 0 1 2 ++ (of_references (both (pos 32) (minus 1)) ++ (of_type (pos 5) ++ first_list 0 5 6))) (pos 1) (pos 1) 78 (declines 78 8 1 3)
    -- Limits of a record, each on both sides: type and sub-types,
    ∷ rule (of_type (pos 1)) 0
    ∷ rule (of_type (pos 4)) 0
    ∷ rule (of_type (pos 5)) 1
    ∷ rule (of_type (minus 1)) 1
    ∷ rule (of_sub (pos 4) (list_of4 (pos 0) (pos 1) (pos 2) (pos 3))) 0
    ∷ rule (of_sub (pos 4) (list_of4 (pos 4) (pos 0) (pos 0) (pos 0))) 2
    ∷ rule (of_sub (pos 0) (list_of4 (pos 0) (pos 0) (pos 0) (pos 1))) 2
    ∷ rule (of_sub (pos 2) (list_of4 (pos 0) (pos 0) (pos 1) (pos 0))) 2
    ∷ rule (of_sub (pos 3) (list_of4 (pos 0) (pos 1) (pos 0) (pos 0))) 2
    ∷ rule (of_sub (pos 4) (list_of4 (pos 0) (pos 0) (pos 0) (minus 1))) 2
    ∷ rule (of_sub (pos 3) (list_of4 (pos 0) (pos 0) (pos 0) (pos 1))) 2
    -- references,
    ∷ rule (of_references (both (pos 31) (minus 1))) 0
    ∷ rule (of_references (both (minus 1) (pos 31))) 0
    ∷ rule (of_references (both (pos 32) (minus 1))) 3
    ∷ rule (of_references (both (pos 0) (minus 2))) 3
    ∷ rule (of_references (one_quadrant (minus 1) (minus 1))) 4
    ∷ rule (of_type (pos 0)) 4
    -- vectors,
    ∷ rule (of_vector (pos 8191) (minus 8192)) 0
    ∷ rule (of_vector (pos 8192) (pos 0)) 5
    ∷ rule (of_vector (pos 0) (minus 8193)) 5
    ∷ rule (words (pos 1) no_sub (both (pos 0) (minus 1)) (all_blocks (block 0 0 0 1))) 5
    ∷ rule (words (pos 1) no_sub (both (minus 1) (pos 0)) (all_blocks (block 1 0 0 0))) 5
    -- and pieces.
    ∷ rule (halves (pos 2)) 0
    ∷ rule (sides (pos 3)) 0
    ∷ rule (halves (pos 4)) 0
    ∷ rule (halves (pos 1)) 6
    ∷ rule (halves (pos 3)) 6
    ∷ rule (sides (pos 2)) 6
    ∷ rule (words (pos 4) (list_of4 (pos 0) (pos 2) (pos 1) (pos 3)) (both (pos 0) (pos 2)) (rising 1)) 6
    -- Detail,
    ∷ rule (with_detail 15 (of_type (pos 1))) 0
    ∷ rule (with_detail 16 (of_type (pos 1))) 7
    ∷ rule (set no_motion 77 (minus 1)) 7
    -- Two neighbouring rules are broken: the first of them.
    ∷ rule (with_detail 16 (halves (pos 1))) 6
    ∷ rule (of_sub (pos 5) (list_of4 (pos 1) (pos 0) (pos 0) (pos 0))) 1
    ∷ rule (words (pos 1) (list_of4 (pos 1) (pos 0) (pos 0) (pos 0)) (both (pos 32) (minus 1)) (all_blocks (block 0 0 0 0))) 2
    ∷ rule (of_references (list_of4 (minus 1) (minus 1) (pos 32) (minus 1) ++ list_of4 (pos 0) (minus 1) (pos 0) (minus 1))) 3
    ∷ rule (words (pos 1) no_sub (one_quadrant (minus 1) (minus 1)) (all_blocks (block 1 2 0 0))) 4
    ∷ rule (words (pos 1) no_sub (both (pos 0) (pos 0)) (rising 8150)) 5
    -- The words of record lines, in order,
    ∷ lines (entry intra (minus 7 ∷ []) ∷ entry whole (list_of4 (pos 1) (pos 2) (pos 3) (pos 4) ++ (pos 5 ∷ pos 6 ∷ pos 8 ∷ [])) ∷ entry mb various ∷ [])
    (set no_motion 77 (minus 7) ++ (detailed (pos 1) no_sub (both (pos 1) (pos 2)) (all_blocks (block 3 4 5 6)) (pos 8) ++ various))
    -- and the log of a refusal: too many lines, though a record is malformed; and a malformed record, the second.
    ∷ log (by plain plain) (entry intra (pos 0 ∷ []) ∷ entry mb (of_type (pos 5)) ∷ []) (refused_log 5 0)
    ∷ log (by (axis_with (pos 32) (pos 32) (pos 0) (pos 32)) plain) (entry intra (pos 0 ∷ []) ∷ entry mb (of_type (pos 5)) ∷ []) (refused_log 8 1)
    -- The clip of docs/WHY.md: its second macroblock, its third, which reads base column 1, and its log.
    ∷ call clip (of_vector (pos 3) (minus 8) ++ of_vector (pos 7) (minus 8)) (pos 1) (pos 0) 78 (inherits Vert (fed 12 4 0 0) (quarters S8x8 S4x8 S8x8 S4x8) clip_words)
    ∷ call clip (of_vector (pos 3) (minus 8) ++ of_vector (pos 7) (minus 8)) (pos 2) (pos 0) 78
    (record { reply = Answered (Inherited (of_class Corner 1 0 (fed 16 0 0 0)) S16x16); words = of_vector (pos 11) (minus 8) })
    ∷ log clip (clip_record (pos 3) ∷ clip_record (pos 7) ∷ []) clip_log
    -- What the axis across gives for its second macroblock: k, M, N, F, two columns, the coordinates, and how many fall in the first. And where Z and p(j) round up by B/2, with o below 0.
    ∷ step (axis_with (pos 32) (pos 48) (pos 4) (pos 64)) 16
    (record { k = 1; border = record { 0 = pos 4 }; border8 = record { 0 = minus 8 }; first = 0; two = true; reads = 2 ∷ 2 ∷ 3 ∷ 4 ∷ []; falls = 3 })
    ∷ step (axis_with (pos 32) (pos 38) (minus 4) (pos 64)) 16
    (record { k = 3; border = record { 0 = pos 12 }; border8 = record { 0 = pos 0 }; first = 1; two = false; reads = 5 ∷ 5 ∷ 6 ∷ 6 ∷ []; falls = 4 })
    ∷ step (axis_with (pos 32) (pos 34) (minus 2) (pos 64)) 0
    (record { k = 1; border = record { 0 = pos 8 }; border8 = record { 0 = pos 0 }; first = 0; two = false; reads = 0 ∷ 1 ∷ 2 ∷ 3 ∷ []; falls = 4 })
    -- A block takes from itself, else from its horizontal, its vertical, its diagonal neighbour.
    ∷ takes (true ∷ true ∷ true ∷ true ∷ []) (0 ∷ 1 ∷ 2 ∷ 3 ∷ [])
    ∷ takes (false ∷ true ∷ true ∷ false ∷ []) (1 ∷ 1 ∷ 2 ∷ 2 ∷ [])
    ∷ takes (false ∷ false ∷ true ∷ true ∷ []) (2 ∷ 3 ∷ 2 ∷ 3 ∷ [])
    ∷ takes (false ∷ false ∷ false ∷ true ∷ []) (3 ∷ 3 ∷ 3 ∷ 3 ∷ [])
    -- The picture call, where two refusals apply: the first of them. Too many words; and 8 of a record that no macroblock reads.
    ∷ picture (with_across (pos 16) (pos 16) (pos 1) (pos 16)) [] 78 (refusal 4)
    ∷ picture (by plain plain) [] 0 (refusal 5)
    ∷ picture (by plain plain) (of_type (pos 5)) 77 (refusal 6)
    ∷ picture (by plain plain) no_motion 156 (refusal 6)
    ∷ picture (by (axis_with (pos 32) (pos 32) (pos 0) (pos 16)) plain) (no_motion ++ of_type (pos 5)) 78 (record { number = 8; place = 1; rule = 1 })
    -- The log of too few lines, and of an intra macroblock: (mb 0 0 0 0), (sync 1 0 1 0).
    ∷ log (by (axis_with (pos 32) (pos 32) (pos 0) (pos 32)) plain) (entry intra (pos 0 ∷ []) ∷ []) (refused_log 5 0)
    -- a last number that is no detail: rule 7 refuses the record, and not the grammar the text
    ∷ log (by plain plain) (entry intra (pos 16 ∷ []) ∷ []) (refused_log 8 0)
    ∷ log (by plain plain) (entry intra (pos 0 ∷ []) ∷ [])
    ((40 ∷ 109 ∷ 98 ∷ 32 ∷ 48 ∷ 32 ∷ 48 ∷ 32 ∷ 48 ∷ 32 ∷ 48 ∷ 41 ∷ 10 ∷ []) ++ (40 ∷ 115 ∷ 121 ∷ 110 ∷ 99 ∷ 32 ∷ 49 ∷ 32 ∷ 48 ∷ 32 ∷ 49 ∷ 32 ∷ 48 ∷ 41 ∷ 10 ∷ []))
    ∷ []

-- They hold.
pub unstarred-hold : map given unstarred ≡ map expected unstarred
unfolding how_many all_of all_below pick up_to inside_axis m_of n_of f_of two_of columns_read digits_of coordinate_of step_of address_read block_read same_motion same_prediction alike one_each fewest_in record_at motion_of split_said rule1 rule2 rule3 rule4 rule5 rule6 rule7 first_broken laid_out set_of intra_set gathered source clear_of filled lower lowest having merged_list merged some_of live_of copied_from copied resolved scaled_prediction scaled_motion inherited_motions origin_at basis_at quadrant_detail detail_at blocks_reading fed_at answer_of addresses_of written_for made_of geometry_tests record_tests addresses_read macroblock_tests macroblock_call picture_tests picture_call ones ones_in made_at counts_of digits_in decimal line_of macroblock_line sync_line picture_lines refused_line program_tests
unstarred-hold = refl

-- The addresses that an answer names are those of its columns and rows.
pub addresses-named : (g : Axes) (a : Answer) → addresses_named g a ≡ for_each (rows_named a) (λ row. map (λ column. base_address g column row) (columns_named a))
unfolding addresses_of
addresses-named g Outside = refl
addresses-named g (Intra b) = refl
addresses-named g (Inherited b s) = refl

-- ---- Texts
-- n + 1 zeros separated by one space, a closing bracket, and then t
abbrev pub zeros_then : ℕ → List ℕ → List ℕ
zeros_then zero t = 48 ∷ 41 ∷ t
zeros_then (suc n) t = 48 ∷ 32 ∷ zeros_then n t

-- (mb 0 (0 0 0 0) (0 ..) (0 ..) 0) with 78 zeros: an intra record whose references are used, which breaks rule 4
abbrev pub mb_line_text : List ℕ
mb_line_text = 40 ∷ 109 ∷ 98 ∷ 32 ∷ 48 ∷ 32 ∷ 40 ∷ zeros_then 3 (32 ∷ 40 ∷ zeros_then 7 (32 ∷ 40 ∷ zeros_then 63 (32 ∷ zeros_then 0 (10 ∷ []))))

-- (base 32 16), (scaled 48 18), (at 4 -2), (full 64 80), (intra 0), and that line
abbrev pub mb_text : List ℕ
mb_text =
    (40 ∷ 98 ∷ 97 ∷ 115 ∷ 101 ∷ 32 ∷ 51 ∷ 50 ∷ 32 ∷ 49 ∷ 54 ∷ 41 ∷ 10 ∷ [])
    ++ ((40 ∷ 115 ∷ 99 ∷ 97 ∷ 108 ∷ 101 ∷ 100 ∷ 32 ∷ 52 ∷ 56 ∷ 32 ∷ 49 ∷ 56 ∷ 41 ∷ 10 ∷ [])
    ++ ((40 ∷ 97 ∷ 116 ∷ 32 ∷ 52 ∷ 32 ∷ 45 ∷ 50 ∷ 41 ∷ 10 ∷ [])
    ++ ((40 ∷ 102 ∷ 117 ∷ 108 ∷ 108 ∷ 32 ∷ 54 ∷ 52 ∷ 32 ∷ 56 ∷ 48 ∷ 41 ∷ 10 ∷ [])
    ++ ((40 ∷ 105 ∷ 110 ∷ 116 ∷ 114 ∷ 97 ∷ 32 ∷ 48 ∷ 41 ∷ 10 ∷ [])
    ++ mb_line_text))))

abbrev pub mb_numbers : Numbers
mb_numbers = by (axis_with (pos 32) (pos 48) (pos 4) (pos 64)) (axis_with (pos 16) (pos 18) (minus 2) (pos 80))

abbrev pub mb_entries : List Entry
mb_entries = entry intra (pos 0 ∷ []) ∷ entry mb (replicate 78 (pos 0)) ∷ []

-- What is known of texts, without a reader (crate grammar has the Whole case and a table of places)
pub record TextsHold : Type 0 where
  -- a text with an (mb ..) line, what stands in it, and its log, (refused 8 1)
  pub mb-text : Text mb_numbers mb_entries mb_text
  pub mb-log : LogOf mb_text (refused_log 8 1)
  -- (whole (0 0) (0 0 0 0) 0) and (note)
  pub whole-line : LineOf whole_line (replicate 7 (pos 0)) (40 ∷ 119 ∷ 104 ∷ 111 ∷ 108 ∷ 101 ∷ 32 ∷ 40 ∷ zeros_then 1 (32 ∷ 40 ∷ zeros_then 3 (32 ∷ zeros_then 0 (10 ∷ []))))
  pub note-line : Note (40 ∷ 110 ∷ 111 ∷ 116 ∷ 101 ∷ 41 ∷ 10 ∷ [])
  -- 65,536 bytes are not too many, 65,537 are, whatever else is wrong with them;
  pub most_bytes : (t : List ℕ) (place : ℕ) → length t ≡ 65536 → BreaksAt t place → Reads t (not_read (record { number = 9; place = place; rule = 0 }))
  pub too-many-bytes : (t : List ℕ) (r : Reading) → length t ≡ 65537 → Reads t r → r ≡ not_read (refusal 10)
  -- 99 record lines are not too many, 100 are;
  pub most-lines : (t : List ℕ) (n : Numbers) (entries : List Entry) → length t ≡ 65536 → Text n entries t → length entries ≡ 99 → Reads t (read_as n entries)
  pub too-many-lines : (t : List ℕ) (n : Numbers) (entries : List Entry) → length t ≡ 65536 → Text n entries t → length entries ≡ 100 → Reads t (not_read (refusal 10))
  -- the text call has the words of 99 records, 7,722; with 7,721 or 7,723 it is refused by 6, whatever is wrong with the text.
  pub right-words : (t : List ℕ) (words : List ℤ) (r : Refusal) → length words ≡ 7722 → Reads t (not_read r) → TextAnswer t words (NotRead r) words
  pub few_words : (t : List ℕ) (words new : List ℤ) (reply : TextReply) → length words ≡ 7721 → TextAnswer t words reply new → reply ≡ NotRead (refusal 6)
  pub many-words : (t : List ℕ) (words new : List ℤ) (reply : TextReply) → length words ≡ 7723 → TextAnswer t words reply new → reply ≡ NotRead (refusal 6)
  -- The words of the record lines stand first, 78 for each, the rest unchanged.
  pub words-first : (t : List ℕ) (n : Numbers) (entries : List Entry) (words : List ℤ) → length words ≡ 7722 → Reads t (read_as n entries)
      → TextAnswer t words (Read (record { numbers = n; lines = length entries })) (base_of entries ++ drop (78 * length entries) words)
  -- The log call: 1,179,679 bytes serve, and the log stands first, the rest unchanged; with one fewer it is refused by 6, and the bytes are as they were.
  pub right-bytes : (t log out : List ℕ) (found : LogOf t log) → length out ≡ 1179679
      → LogAnswer t out (Written (record { bytes = length log; verdict = verdict_for (finding_of found.reading); empty = empty_for (finding_of found.reading) })) (log ++ drop (length log) out)
  pub few_bytes : (t out new : List ℕ) (reply : LogReply) → length out ≡ 1179678 → LogAnswer t out reply new → (reply ≡ NotWritten (refusal 6)) × (new ≡ out)
  -- a note of the letters a and z
  pub letters : Note (40 ∷ 110 ∷ 111 ∷ 116 ∷ 101 ∷ 32 ∷ 97 ∷ 122 ∷ 41 ∷ 10 ∷ [])
  -- A text of no bytes means no picture, leaves the words, and has the log (sync 0 0 0 0).
  pub no_bytes : Reads [] empty
  pub no-bytes-words : (words : List ℤ) → length words ≡ 7722 → TextAnswer [] words NoPicture words
  pub no-bytes-log : LogOf [] (40 ∷ 115 ∷ 121 ∷ 110 ∷ 99 ∷ 32 ∷ 48 ∷ 32 ∷ 48 ∷ 32 ∷ 48 ∷ 32 ∷ 48 ∷ 41 ∷ 10 ∷ [])
  -- Refusal 9 is none of its.
  pub no-bytes-nine : (r : Refusal) → Reads [] (not_read r) → r.number ≡ 9 → ⊥
  -- A line feed alone, or a note, does not mean it.
  pub line-feed : Reads (10 ∷ []) empty → ⊥
  pub note-only : Reads (40 ∷ 110 ∷ 111 ∷ 116 ∷ 101 ∷ 41 ∷ 10 ∷ []) empty → ⊥
