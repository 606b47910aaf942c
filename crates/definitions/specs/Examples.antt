-- "Bench examples" of document 01: the starred ones, in one table, proved by one statement; the Whole case; and a table of refusal 9's places. The Whole case from its
-- text on, and the places, are proved in crate grammar (proofs/Examples). Unstarred has a table of other examples.
use Rattle.std.specs.Prelude.{ℕ, ◌≡◌, refl, Bool, true, false, not, ◌&&◌, List, [], ◌∷◌, ◌++◌, T, eqb, ℤ, pos, get_or, replicate}
use Rattle.std.specs.Int.Count.{ones, ones_in}
use Rattle.definitions.specs.declared.Axis.{Axis}
use Rattle.definitions.specs.declared.AxisNumbers.{AxisNumbers}
use Rattle.definitions.specs.declared.Numbers.{Numbers}
use Rattle.definitions.specs.declared.Prediction.{Prediction}
use Rattle.definitions.specs.Replies.{MacroblockReply}
use Rattle.std.specs.Prelude.{Ok as Answered, Err as Refused}
use Rattle.definitions.specs.Basics.{pick, minus, eq_z, all_below, all_of, up_to, four, set_of, some_of, how_many}
use Rattle.definitions.specs.Geometry.{axes_of, axis_of, inside_axis, c_of, m_of, n_of, f_of, two_of, base_size, scaled_size}
use Rattle.definitions.specs.BlockMap.{digits_of, coordinate_of, step_of, address_read, block_read}
use Rattle.definitions.specs.Splits.{same_motion, same_prediction, alike, one_each, fewest_in}
use Rattle.definitions.specs.Record.{record_words, record_at, motion_of, split_said, rule1, rule2, rule3, rule4, rule5, rule6, rule7, first_broken, narrow, laid_out, all_one}
use Rattle.definitions.specs.Inheriting.{intra_set, gathered, source, clear_of, filled, lower, lowest, having, unused, zero_prediction, zero_motion, merged_list, merged, live_of, copied_from, copied, resolved, scaled_word, scaled_prediction, scaled_motion, inherited_motions}
use Rattle.definitions.specs.Detail.{quadrant_detail, detail_at}
use Rattle.definitions.specs.Fed.{blocks_reading, fed_at}
use Rattle.definitions.specs.Answer.{origin_at, basis_at, answer_of, answer_type, addresses_of, without_motion, written_for, made_of}
use Rattle.definitions.specs.Refusals.{geometry_tests, record_tests, addresses_read}
use Rattle.definitions.specs.Calls.{macroblock_tests, macroblock_call, made_at, counts_of}
use Rattle.definitions.specs.Text.{Entry, whole, base_of, not_read, Reads}
use Rattle.definitions.specs.Log.{digits_in, decimal, line_of, macroblock_line, sync_line, picture_lines, program_tests, judged, makes}
use Rattle.definitions.specs.Geometry.{columns_read}
use Rattle.definitions.specs.Blocks.{quadrant_of, in_quadrant}

-- what an axis gives for a macroblock: outside, or M, N, F and whether two columns are read
pub data Seen : Type 0 where
  out : Seen
  gives : ℤ → ℤ → ℕ → Bool → Seen

pub data Example : Type 0 where
  -- an axis with B, S, o, the macroblock at P
  axis : ℕ → ℕ → ℤ → ℕ → Seen → Example
  -- with B and S a vector word gives another
  word : ℕ → ℕ → ℤ → ℤ → Example
  -- B and S 32, o 4 on both axes, the macroblock at 16,16 on this base: how many blocks read intra macroblocks, and the answer's type
  macroblock : List ℤ → ℕ → ℕ → Example
  -- there, step 1 gives a block the motion of this block of its quadrant
  fill : List ℤ → ℕ → ℕ → Example
  -- in a quadrant with these predictions of a list, step 2 gives all four the reference and vector of this block
  merge : List Prediction → ℕ → Example

abbrev axis_for : ℕ → ℕ → ℤ → AxisNumbers
axis_for b s o = record { base = pos b; scaled = pos s; offset = o; full = pos 64 }

abbrev pub centred : Numbers
centred = record { horizontal = axis_for 32 32 (pos 4); vertical = axis_for 32 32 (pos 4) }

abbrev set_for : List ℤ → ℕ
set_for base = intra_set (axes_of centred) base 1 1

abbrev reply_type : MacroblockReply → ℕ → Bool
reply_type (Answered a) t = eqb (answer_type a) t
reply_type (Refused r) t = false

abbrev same_bool : Bool → Bool → Bool
same_bool true b = b
same_bool false b = not b

abbrev seen : Axis → ℕ → Seen → Bool
seen a p out = not (inside_axis a p)
seen a p (gives m n f two) =
    let b = base_size a in
    let s = scaled_size a in
    let c = c_of a p in
    inside_axis a p && (eq_z (m_of b s c) m && (eq_z (n_of b s c) n && (eqb (f_of b s c) f && same_bool (two_of b s c) two)))

abbrev pub holds : Example → Bool
holds (axis b s o p e) = seen (axis_of (axis_for b s o)) p e
holds (word b s v w) = eq_z (scaled_word b s v) w
holds (macroblock base members type) =
    eqb (ones (set_for base)) members && reply_type (macroblock_call narrow centred base (pos 1) (pos 1) (replicate record_words (pos 0))).reply type
holds (fill base i k) =
    let before = get_or (gathered (axes_of centred) base 1 1) (quadrant_of i) [] in
    let after = filled (clear_of (set_for base) (quadrant_of i)) before in
    same_motion (get_or after (in_quadrant i) zero_motion) (get_or before k zero_motion)
holds (merge p k) = all_below 4 (λ j. same_prediction (get_or (merged_list p) j zero_prediction) (get_or p k zero_prediction))

-- an intra record, and one of type 1
abbrev pub intra_record : List ℤ
intra_record = without_motion 0 (pos 0)

abbrev pub whole_record : List ℤ
whole_record = laid_out (all_one 1 (record { list0 = record { reference = pos 0; x = pos 4; y = minus 8 }; list1 = unused }) (pos 0))

abbrev pub only_last : List ℤ
only_last = intra_record ++ (intra_record ++ (intra_record ++ whole_record))

abbrev pub all_but_last : List ℤ
all_but_last = whole_record ++ (whole_record ++ (whole_record ++ intra_record))

abbrev predicts : ℕ → ℤ → Prediction
predicts r v = record { reference = pos r; x = v; y = v }

abbrev pub starred : List Example
starred =
    axis 32 48 (pos 0) 0 (gives (minus 8) (pos 4) 0 false)
    ∷ axis 32 48 (pos 0) 16 (gives (pos 0) (pos 12) 0 true)
    ∷ axis 32 48 (pos 0) 32 (gives (pos 8) (minus 4) 1 false)
    ∷ axis 16 16 (pos 0) 0 (gives (pos 8) (pos 0) 0 false)
    ∷ axis 32 64 (pos 6) 0 out
    ∷ axis 32 64 (pos 6) 16 (gives (pos 16) (minus 4) 0 false)
    ∷ axis 32 64 (pos 6) 32 (gives (minus 4) (pos 16) 0 true)
    ∷ word 32 48 (pos 3) (pos 5)
    ∷ word 32 48 (minus 3) (minus 4)  -- document 01 prints −5, the rule before document 02's E3
    ∷ word 32 64 (pos 8191) (pos 16382)
    ∷ word 32 64 (minus 8192) (minus 16384)
    ∷ macroblock only_last 7 1
    ∷ fill only_last 0 3
    ∷ macroblock all_but_last 9 0
    ∷ merge (predicts 2 (pos 1) ∷ predicts 1 (pos 2) ∷ predicts 1 (pos 3) ∷ predicts 0 (pos 4) ∷ []) 3
    ∷ []

-- The starred examples hold.
pub starred-hold : T (all_of holds starred)
unfolding how_many all_of all_below pick up_to inside_axis m_of n_of f_of two_of columns_read digits_of coordinate_of step_of address_read block_read same_motion same_prediction alike one_each fewest_in record_at motion_of split_said rule1 rule2 rule3 rule4 rule5 rule6 rule7 first_broken laid_out set_of intra_set gathered source clear_of filled lower lowest having merged_list merged some_of live_of copied_from copied resolved scaled_prediction scaled_motion inherited_motions origin_at basis_at quadrant_detail detail_at blocks_reading fed_at answer_of addresses_of written_for made_of geometry_tests record_tests addresses_read macroblock_tests macroblock_call ones ones_in
starred-hold = tt

-- The last of them holds for any vectors.
pub starred-merge : (x y : ℕ → ℤ)
    → merged_list (four (λ k. record { reference = get_or (pos 2 ∷ pos 1 ∷ pos 1 ∷ pos 0 ∷ []) k (pos 0); x = x k; y = y k })) ≡ four (λ k. record { reference = pos 0; x = x 3; y = y 3 })
unfolding pick source lower lowest having merged_list
starred-merge x y = refl

-- Whole case ("Sync text and log"): base 16 16, scaled 32 32, at 0 0, full 48 32, one record (whole (0 -1) (4 -8 0 0) 0), whose last number is E7's
abbrev whole_axis : ℕ → AxisNumbers
whole_axis full = record { base = pos 16; scaled = pos 32; offset = pos 0; full = pos full }

abbrev pub whole_case : Numbers
whole_case = record { horizontal = whole_axis 48; vertical = whole_axis 32 }

abbrev pub whole_entries : List Entry
whole_entries = record { kind = whole; fields = pos 0 ∷ minus 1 ∷ pos 4 ∷ minus 8 ∷ pos 0 ∷ pos 0 ∷ pos 0 ∷ [] } ∷ []

-- its first four lines, and then t
abbrev whole_with : List ℕ → List ℕ
whole_with t =
    (40 ∷ 98 ∷ 97 ∷ 115 ∷ 101 ∷ 32 ∷ 49 ∷ 54 ∷ 32 ∷ 49 ∷ 54 ∷ 41 ∷ 10 ∷ [])
    ++ ((40 ∷ 115 ∷ 99 ∷ 97 ∷ 108 ∷ 101 ∷ 100 ∷ 32 ∷ 51 ∷ 50 ∷ 32 ∷ 51 ∷ 50 ∷ 41 ∷ 10 ∷ [])
    ++ ((40 ∷ 97 ∷ 116 ∷ 32 ∷ 48 ∷ 32 ∷ 48 ∷ 41 ∷ 10 ∷ [])
    ++ ((40 ∷ 102 ∷ 117 ∷ 108 ∷ 108 ∷ 32 ∷ 52 ∷ 56 ∷ 32 ∷ 51 ∷ 50 ∷ 41 ∷ 10 ∷ [])
    ++ t)))

abbrev pub whole_text : List ℕ
whole_text =
    whole_with (40 ∷ 119 ∷ 104 ∷ 111 ∷ 108 ∷ 101 ∷ 32 ∷ 40 ∷ 48 ∷ 32 ∷ 45 ∷ 49 ∷ 41 ∷ 32 ∷ 40 ∷ 52 ∷ 32 ∷ 45 ∷ 56 ∷ 32 ∷ 48 ∷ 32 ∷ 48 ∷ 41 ∷ 32 ∷ 48 ∷ 41 ∷ 10 ∷ [])

-- the same with (note) before, between and after its lines
abbrev pub noted_text : List ℕ
noted_text =
    let n : List ℕ = (40 ∷ 110 ∷ 111 ∷ 116 ∷ 101 ∷ 41 ∷ 10 ∷ []) in
    (n ++ (40 ∷ 98 ∷ 97 ∷ 115 ∷ 101 ∷ 32 ∷ 49 ∷ 54 ∷ 32 ∷ 49 ∷ 54 ∷ 41 ∷ 10 ∷ []))
    ++ ((n ++ (40 ∷ 115 ∷ 99 ∷ 97 ∷ 108 ∷ 101 ∷ 100 ∷ 32 ∷ 51 ∷ 50 ∷ 32 ∷ 51 ∷ 50 ∷ 41 ∷ 10 ∷ []))
    ++ ((n ++ (n ++ (40 ∷ 97 ∷ 116 ∷ 32 ∷ 48 ∷ 32 ∷ 48 ∷ 41 ∷ 10 ∷ [])))
    ++ ((n ++ (40 ∷ 102 ∷ 117 ∷ 108 ∷ 108 ∷ 32 ∷ 52 ∷ 56 ∷ 32 ∷ 51 ∷ 50 ∷ 41 ∷ 10 ∷ []))
    ++ (n
    ++ ((40 ∷ 119 ∷ 104 ∷ 111 ∷ 108 ∷ 101 ∷ 32 ∷ 40 ∷ 48 ∷ 32 ∷ 45 ∷ 49 ∷ 41 ∷ 32 ∷ 40 ∷ 52 ∷ 32 ∷ 45 ∷ 56 ∷ 32 ∷ 48 ∷ 32 ∷ 48 ∷ 41 ∷ 32 ∷ 48 ∷ 41 ∷ 10 ∷ []) ++ n)))))

abbrev pub whole_log : List ℕ
whole_log =
    (40 ∷ 109 ∷ 98 ∷ 32 ∷ 48 ∷ 32 ∷ 48 ∷ 32 ∷ 49 ∷ 32 ∷ 49 ∷ 41 ∷ 10 ∷ [])
    ++ ((40 ∷ 109 ∷ 98 ∷ 32 ∷ 49 ∷ 32 ∷ 48 ∷ 32 ∷ 49 ∷ 32 ∷ 49 ∷ 41 ∷ 10 ∷ [])
    ++ ((40 ∷ 109 ∷ 98 ∷ 32 ∷ 50 ∷ 32 ∷ 48 ∷ 32 ∷ 53 ∷ 32 ∷ 48 ∷ 41 ∷ 10 ∷ [])
    ++ ((40 ∷ 109 ∷ 98 ∷ 32 ∷ 48 ∷ 32 ∷ 49 ∷ 32 ∷ 49 ∷ 32 ∷ 49 ∷ 41 ∷ 10 ∷ [])
    ++ ((40 ∷ 109 ∷ 98 ∷ 32 ∷ 49 ∷ 32 ∷ 49 ∷ 32 ∷ 49 ∷ 32 ∷ 49 ∷ 41 ∷ 10 ∷ [])
    ++ ((40 ∷ 109 ∷ 98 ∷ 32 ∷ 50 ∷ 32 ∷ 49 ∷ 32 ∷ 53 ∷ 32 ∷ 48 ∷ 41 ∷ 10 ∷ [])
    ++ (40 ∷ 115 ∷ 121 ∷ 110 ∷ 99 ∷ 32 ∷ 54 ∷ 32 ∷ 52 ∷ 32 ∷ 48 ∷ 32 ∷ 50 ∷ 41 ∷ 10 ∷ []))))))

pub whole-holds : judged whole_case 1 (base_of whole_entries) ≡ makes whole_log
unfolding how_many all_of all_below pick up_to inside_axis m_of n_of f_of two_of columns_read digits_of coordinate_of step_of address_read block_read same_motion same_prediction alike one_each fewest_in record_at motion_of split_said rule1 rule2 rule3 rule4 rule5 rule6 rule7 first_broken laid_out set_of intra_set gathered source clear_of filled lower lowest having merged_list merged some_of live_of copied_from copied resolved scaled_prediction scaled_motion inherited_motions origin_at basis_at quadrant_detail detail_at blocks_reading fed_at answer_of addresses_of written_for made_of geometry_tests record_tests ones ones_in made_at counts_of digits_in decimal line_of macroblock_line sync_line picture_lines program_tests
whole-holds = refl

-- Refusal 9: a text, and its place
pub record Broken : Type 0 where
  pub text : List ℕ
  pub place : ℕ

abbrev broken_row : List ℕ → ℕ → Broken
broken_row t p = record { text = t; place = p }

-- `(note ` and then t
abbrev in_note : List ℕ → List ℕ
in_note t = 40 ∷ 110 ∷ 111 ∷ 116 ∷ 101 ∷ 32 ∷ t

abbrev pub broken_texts : List Broken
broken_texts =
    broken_row (10 ∷ []) 0  -- a line feed alone
    ∷ broken_row (40 ∷ 110 ∷ 111 ∷ 116 ∷ 101 ∷ 41 ∷ 10 ∷ []) 7  -- a note only: the text ends early
    ∷ broken_row (40 ∷ 98 ∷ 97 ∷ []) 3  -- (ba
    ∷ broken_row (40 ∷ 105 ∷ 110 ∷ []) 1  -- (in, before the first four lines
    ∷ broken_row (40 ∷ 110 ∷ 111 ∷ 116 ∷ 101 ∷ 115 ∷ 41 ∷ []) 5  -- (notes)
    ∷ broken_row (in_note (41 ∷ [])) 6  -- (note )
    ∷ broken_row (in_note (48 ∷ 49 ∷ 41 ∷ [])) 7  -- (note 01)
    ∷ broken_row (in_note (45 ∷ 48 ∷ 41 ∷ [])) 7  -- (note -0)
    ∷ broken_row (in_note (51 ∷ 50 ∷ 55 ∷ 54 ∷ 55 ∷ [])) 11  -- (note 32767, which goes on
    ∷ broken_row (in_note (51 ∷ 50 ∷ 55 ∷ 54 ∷ 56 ∷ [])) 10  -- (note 32768
    ∷ broken_row (in_note (45 ∷ 51 ∷ 50 ∷ 55 ∷ 54 ∷ 56 ∷ [])) 12  -- (note -32768, which goes on
    ∷ broken_row (in_note (45 ∷ 51 ∷ 50 ∷ 55 ∷ 54 ∷ 57 ∷ [])) 11  -- (note -32769
    ∷ broken_row (in_note (57 ∷ 57 ∷ 57 ∷ 57 ∷ 57 ∷ [])) 10  -- (note 99999
    ∷ broken_row (in_note (122 ∷ 98 ∷ [])) 8  -- (note zb, which goes on
    ∷ broken_row (in_note (97 ∷ 49 ∷ [])) 7  -- (note a1
    ∷ broken_row (in_note (96 ∷ [])) 6  -- (note and the byte before a
    ∷ broken_row (in_note (123 ∷ [])) 6  -- (note and the byte after z
    ∷ broken_row (in_note (97 ∷ 96 ∷ [])) 7  -- (note a and the byte before a
    ∷ broken_row (in_note (122 ∷ 123 ∷ [])) 7  -- (note z and the byte after z
    ∷ broken_row (in_note (40 ∷ 41 ∷ 41 ∷ [])) 7  -- (note ())
    ∷ broken_row (in_note (40 ∷ 40 ∷ 40 ∷ 40 ∷ 40 ∷ 40 ∷ 40 ∷ 97 ∷ [])) 14  -- (note (((((((a, which goes on
    ∷ broken_row (in_note (40 ∷ 40 ∷ 40 ∷ 40 ∷ 40 ∷ 40 ∷ 40 ∷ 40 ∷ [])) 13  -- (note ((((((((
    -- behind the first four lines of the Whole case, E7's last number: document 01's (whole (0 -1) (4 -8 0 0)), which has none
    ∷ broken_row (whole_with (40 ∷ 119 ∷ 104 ∷ 111 ∷ 108 ∷ 101 ∷ 32 ∷ 40 ∷ 48 ∷ 32 ∷ 45 ∷ 49 ∷ 41 ∷ 32 ∷ 40 ∷ 52 ∷ 32 ∷ 45 ∷ 56 ∷ 32 ∷ 48 ∷ 32 ∷ 48 ∷ 41 ∷ 41 ∷ 10 ∷ [])) 74
    ∷ broken_row (whole_with (40 ∷ 105 ∷ 110 ∷ 116 ∷ 114 ∷ 97 ∷ 41 ∷ 10 ∷ [])) 56  -- (intra)
    ∷ broken_row (whole_with (40 ∷ 105 ∷ 110 ∷ 116 ∷ 114 ∷ 97 ∷ 32 ∷ 48 ∷ 32 ∷ 48 ∷ 41 ∷ [])) 58  -- (intra 0 0)
    ∷ []

abbrev pub PlacesRight : List Broken → Type 0
PlacesRight [] = Unit {0}
PlacesRight (r ∷ rs) = Reads r.text (not_read (record { number = 9; place = r.place; rule = 0 })) × PlacesRight rs
