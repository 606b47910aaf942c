-- The concrete cases of specs/Cases, by computation. Assumes nothing.
use Prim.Native.Nat.{ℕ, ◌*◌}
use mathlib.Core.Path.{◌≡◌, refl, sym, ap, ◌∙◌}
use mathlib.Core.Bool.{true}
use mathlib.Core.List.Memᴰ
use mathlib.Core.List.{List}
use lib.Count.{ones, ones_in}
use lib.Dec.{ltb}
use lib.IntN.{ℤ, pos}
use lib.ListN.{length, length-replicate}
use lib.Signed.{le_z_yes, lt_z_yes}
use borrow.Author.Tests.{ltb-true}
use Rattle.definitions.specs.declared.Numbers.{Numbers}
use Rattle.definitions.specs.declared.Counts.{Counts}
use Rattle.definitions.specs.Replies.{Accepted}
use Rattle.definitions.specs.declared.Class.TheVariants.{Corner, Center}
use Rattle.definitions.specs.declared.Split.TheVariants.{S16x16}
use Rattle.definitions.specs.declared.Answer.{Answer}
use Rattle.definitions.specs.declared.Answer.TheVariants.{Outside, Intra, Inherited}
use Rattle.definitions.specs.Replies.{MacroblockReply}
use Rattle.std.specs.Prelude.{Ok as Counted}
use Rattle.definitions.specs.Basics.{pick, all_below, all_of, up_to, set_of, some_of, how_many}
use Rattle.definitions.specs.Geometry.{axes_of, full_size, macroblocks, inside_axis, m_of, n_of, f_of, two_of, columns_read}
use Rattle.definitions.specs.BlockMap.{digits_of, coordinate_of, step_of, address_read, block_read}
use Rattle.definitions.specs.Splits.{same_motion, same_prediction, alike, one_each, fewest_in}
use Rattle.definitions.specs.Record.{record_words, record_at, well_formed, motion_of, split_said, rule1, rule2, rule3, rule4, rule5, rule6, rule7, first_broken, narrow, laid_out}
use Rattle.definitions.specs.Inheriting.{intra_set, gathered, source, clear_of, filled, lower, lowest, having, merged_list, merged, live_of, copied_from, copied, resolved, scaled_prediction, scaled_motion, inherited_motions}
use Rattle.definitions.specs.Detail.{quadrant_detail, detail_at}
use Rattle.definitions.specs.Fed.{blocks_reading, fed_at}
use Rattle.definitions.specs.Answer.{origin_at, basis_at, answer_of, addresses_of, written_for, made_of}
use Rattle.definitions.specs.Refusals.{geometry_tests, geometry_verdict, record_tests, addresses_read}
use Rattle.definitions.specs.Calls.{Outcome, macroblock_tests, macroblock_call, picture_tests, made_at, counts_of, picture_call}
use Rattle.definitions.specs.Demand3.{SinglyGives, Case}
use Rattle.definitions.specs.Examples.{centred, intra_record, whole_record, only_last, all_but_last, whole_case}
use Rattle.definitions.specs.Cases.{blank, Concrete, from_zero, doubled_record, outside_record, three_counts, Cases}
use Rattle.definitions.specs.Raster.{base_count, full_count}
use Rattle.definitions.proofs.Choices.{below_true}
use Rattle.definitions.proofs.Demand.{call-accepted, gives_made, counted-accepted, record-made, demand3}
use Rattle.definitions.proofs.Singly.{picture-by-singly}

-- a concrete case by equations that compute
pub concrete : (limit : ℕ) (n : Numbers) (column row : ℕ) (base : List ℤ) (answer : Answer) (written : List ℤ) (counts : Counts)
    → geometry_verdict n ≡ Accepted
    → length base ≡ record_words * base_count (axes_of n)
    → all_below (base_count (axes_of n)) (λ a. well_formed limit (record_at base a)) ≡ true
    → ltb column (macroblocks (full_size (axes_of n).horizontal)) ≡ true
    → ltb row (macroblocks (full_size (axes_of n).vertical)) ≡ true
    → SinglyGives limit n column row (blank 1) base answer written
    → (picture_call limit n base (blank (full_count (axes_of n)))).reply ≡ Counted counts
    → Concrete limit n column row base answer written counts
concrete limit n column row base answer written counts accepted size formed x y singly counted =
    let words = blank (full_count (axes_of n)) in
    let within-x = ltb-true column _ x in
    let within-y = ltb-true row _ y in
    let replied = ap (λ (o : Outcome MacroblockReply). o.reply) singly in
    let given = gives_made limit n column row (blank 1) base (call-accepted limit n base (pos column) (pos row) (blank 1) answer replied) in
    let there = record-made limit n words base column row within-x within-y (counted-accepted limit n words base counts counted) in
    let case : Case limit n column row base = record {
      geometry = accepted;
      base-length = size;
      formed = below_true (base_count (axes_of n)) (λ a. well_formed limit (record_at base a)) formed;
      column-within = within-x;
      row_within = within-y;
    } in
    record {
      case = case;
      singly-case = (demand3 limit).case-singly n column row base (blank 1) case (length-replicate _ (pos 0));
      picture-case = (demand3 limit).case-picture n column row base words case (length-replicate _ (pos 0));
      singly = singly;
      picture = record { counts = counts; accepted = counted; answered = replied; at_address = there ∙ ap (λ (o : Outcome MacroblockReply). o.words) (sym given ∙ singly) };
      picture-counts = refl;
    }

-- ---- what computes: the whole case, and the starred macroblock with base 0, 1 and 2 intra and with only base 3 intra
pub record Computed : Type 0 where
  pub whole-formed : all_below 1 (λ a. well_formed narrow (record_at whole_record a)) ≡ true
  pub whole-first : SinglyGives narrow whole_case 0 0 (blank 1) whole_record (Inherited (from_zero Corner 16 0 0 0) S16x16) doubled_record
  pub whole-outside : SinglyGives narrow whole_case 2 0 (blank 1) whole_record Outside outside_record
  pub whole-counted : (picture_call narrow whole_case whole_record (blank 6)).reply ≡ Counted (three_counts 4 0 2)
  pub filled-formed : all_below 4 (λ a. well_formed narrow (record_at only_last a)) ≡ true
  pub filled-center : SinglyGives narrow centred 1 1 (blank 1) only_last (Inherited (from_zero Center 1 3 3 9) S16x16) whole_record
  pub filled-counted : (picture_call narrow centred only_last (blank 16)).reply ≡ Counted (three_counts 1 0 15)
  pub intra-formed : all_below 4 (λ a. well_formed narrow (record_at all_but_last a)) ≡ true
  pub intra-center : SinglyGives narrow centred 1 1 (blank 1) all_but_last (Intra (from_zero Center 1 3 3 9)) intra_record
  pub intra-counted : (picture_call narrow centred all_but_last (blank 16)).reply ≡ Counted (three_counts 0 1 15)

pub computed : Computed
unfolding how_many all_of all_below pick up_to inside_axis m_of n_of f_of two_of columns_read digits_of coordinate_of step_of address_read block_read same_motion same_prediction alike one_each fewest_in record_at motion_of split_said rule1 rule2 rule3 rule4 rule5 rule6 rule7 first_broken laid_out set_of intra_set gathered source clear_of filled lower lowest having merged_list merged some_of live_of copied_from copied resolved scaled_prediction scaled_motion inherited_motions origin_at basis_at quadrant_detail detail_at blocks_reading fed_at answer_of addresses_of written_for made_of geometry_tests record_tests addresses_read macroblock_tests macroblock_call ones ones_in picture_tests made_at counts_of picture_call
computed = record {
  whole-formed = refl;
  whole-first = refl;
  whole-outside = refl;
  whole-counted = refl;
  filled-formed = refl;
  filled-center = refl;
  filled-counted = refl;
  intra-formed = refl;
  intra-center = refl;
  intra-counted = refl;
}

pub cases : Cases
unfolding pick up_to inside_axis laid_out geometry_tests addresses_read
cases = record {
  inherited = concrete narrow whole_case 0 0 whole_record _ _ _ refl refl computed.whole-formed refl refl computed.whole-first computed.whole-counted;
  outside = concrete narrow whole_case 2 0 whole_record _ _ _ refl refl computed.whole-formed refl refl computed.whole-outside computed.whole-counted;
  others-case = λ base l. record {
    geometry = refl;
    base-length = l;
    words-length = refl;
    column-low = le_z_yes tt;
    column-high = lt_z_yes tt;
    row_low = le_z_yes tt;
    row-high = lt_z_yes tt;
    formed = λ a m. absurd (Memᴰ.not-nil m);
  };
  others = λ base l. ((demand3 narrow).singly whole_case 2 0 (blank 1) whole_record Outside outside_record computed.whole-outside).others base l (λ a m. absurd (Memᴰ.not-nil m));
  by-calls = picture-by-singly narrow whole_case whole_record (blank 6) (three_counts 4 0 2) (λ a. blank 1) computed.whole-counted (λ a h. refl);
  filled-there = concrete narrow centred 1 1 only_last _ _ _ refl refl computed.filled-formed refl refl computed.filled-center computed.filled-counted;
  intra = concrete narrow centred 1 1 all_but_last _ _ _ refl refl computed.intra-formed refl refl computed.intra-center computed.intra-counted;
}
