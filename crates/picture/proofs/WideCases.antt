-- The cases of specs/Widths, by computation. Assumes nothing.
use mathlib.Core.Path.{◌≡◌, refl}
use mathlib.Core.Bool.{true}
use mathlib.Core.List.{List}
use lib.Count.{ones, ones_in}
use lib.IntN.{ℤ, pos}
use lib.ListN.{length}
use Rattle.definitions.specs.declared.Class.TheVariants.{Corner}
use Rattle.definitions.specs.declared.Split.TheVariants.{S16x16}
use Rattle.definitions.specs.declared.Answer.TheVariants.{Inherited}
use Rattle.std.specs.Prelude.{Ok as Counted}
use Rattle.definitions.specs.Basics.{minus, pick, all_below, all_of, up_to, set_of, some_of, how_many}
use Rattle.definitions.specs.Geometry.{inside_axis, m_of, n_of, f_of, two_of, columns_read}
use Rattle.definitions.specs.BlockMap.{digits_of, coordinate_of, step_of, address_read, block_read}
use Rattle.definitions.specs.Splits.{same_motion, same_prediction, alike, one_each, fewest_in}
use Rattle.definitions.specs.Record.{record_at, record_words, well_formed, motion_of, split_said, rule1, rule2, rule3, rule4, rule5, rule6, rule7, first_broken, laid_out, narrow, wide}
use Rattle.definitions.specs.Inheriting.{intra_set, gathered, source, clear_of, filled, lower, lowest, having, merged_list, merged, live_of, copied_from, copied, resolved, scaled_prediction, scaled_motion, inherited_motions}
use Rattle.definitions.specs.Detail.{quadrant_detail, detail_at}
use Rattle.definitions.specs.Fed.{blocks_reading, fed_at}
use Rattle.definitions.specs.Answer.{origin_at, basis_at, answer_of, addresses_of, written_for, made_of}
use Rattle.definitions.specs.Refusals.{geometry_tests, record_tests, addresses_read}
use Rattle.definitions.specs.Calls.{macroblock_tests, macroblock_call, picture_tests, picture_call, made_at, counts_of}
use Rattle.definitions.specs.Demand3.{SinglyGives}
use Rattle.definitions.specs.Examples.{whole_case}
use Rattle.definitions.specs.Cases.{blank, from_zero, three_counts}
use Rattle.definitions.specs.Widths.{RefusedBy, WideCases, AnsweredAt, vector_record}
use Rattle.definitions.proofs.Cases.{concrete}

-- ---- the cases, as they compute
pub record Answers (base written : List ℤ) : Type 0 where
  pub size : length base ≡ record_words
  pub formed : well_formed wide (record_at base 0) ≡ true
  pub singly : SinglyGives wide whole_case 0 0 (blank 1) base (Inherited (from_zero Corner 16 0 0 0) S16x16) written
  pub counted : (picture_call wide whole_case base (blank 6)).reply ≡ Counted (three_counts 4 0 2)

pub record Computed : Type 0 where
  pub answered : Answers (vector_record 1 (pos 8192)) (vector_record 1 (pos 16384))
  pub refused : RefusedBy narrow 5 (vector_record 1 (pos 8192))
  pub highest : Answers (vector_record 1 (pos 131071)) (vector_record 1 (pos 262142))
  pub lowest : Answers (vector_record 1 (minus 131072)) (vector_record 1 (minus 262144))
  pub above : RefusedBy wide 5 (vector_record 1 (pos 131072))
  pub below : RefusedBy wide 5 (vector_record 1 (minus 131073))
  pub whole-type : RefusedBy wide 1 (vector_record 65537 (pos 0))

pub computed : Computed
unfolding how_many all_of all_below pick up_to inside_axis m_of n_of f_of two_of columns_read digits_of coordinate_of step_of address_read block_read same_motion same_prediction alike one_each fewest_in record_at motion_of split_said rule1 rule2 rule3 rule4 rule5 rule6 rule7 first_broken laid_out set_of intra_set gathered source clear_of filled lower lowest having merged_list merged some_of live_of copied_from copied resolved scaled_prediction scaled_motion inherited_motions origin_at basis_at quadrant_detail detail_at blocks_reading fed_at answer_of addresses_of written_for made_of geometry_tests record_tests addresses_read macroblock_tests macroblock_call picture_tests picture_call made_at counts_of ones ones_in
computed = record {
  answered = record { size = refl; formed = refl; singly = refl; counted = refl };
  refused = record { singly = refl; picture = refl };
  highest = record { size = refl; formed = refl; singly = refl; counted = refl };
  lowest = record { size = refl; formed = refl; singly = refl; counted = refl };
  above = record { singly = refl; picture = refl };
  below = record { singly = refl; picture = refl };
  whole-type = record { singly = refl; picture = refl };
}

answers : (base written : List ℤ) → Answers base written → AnsweredAt wide base written
unfolding pick up_to inside_axis geometry_tests all_below
answers base written a = concrete wide whole_case 0 0 base _ written _ refl a.size a.formed refl refl a.singly a.counted

pub wide-cases : WideCases
wide-cases = record {
  answered = answers _ _ computed.answered;
  refused = computed.refused;
  highest = answers _ _ computed.highest;
  lowest = answers _ _ computed.lowest;
  above = computed.above;
  below = computed.below;
  whole-type = computed.whole-type;
}
