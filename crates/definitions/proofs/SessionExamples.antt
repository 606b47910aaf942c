-- Sessions by computation: document 01's whole case meets the premises of PictureBySession, and each refusal of a session occurs. Assumes nothing.
use Prim.Native.Nat.{ℕ}
use mathlib.Core.Path.{◌≡◌, refl}
use mathlib.Core.List.{List, [], ◌∷◌, map}
use lib.Count.{ones, ones_in}
use lib.IntN.{pos}
use lib.ListN.{replicate}
use Rattle.definitions.specs.Replies.{Verdict, Accepted}
use Rattle.std.specs.Prelude.{Err as Refused}
use Rattle.definitions.specs.Replies.{MacroblockReply}
use Rattle.std.specs.Prelude.{Ok as Answered, Err as Declined}
use Rattle.definitions.specs.declared.Numbers.{Numbers}
use Rattle.definitions.specs.Basics.{pick, all_below, all_of, up_to, set_of, some_of, how_many}
use Rattle.definitions.specs.Geometry.{inside_axis, m_of, n_of, f_of, two_of, columns_read}
use Rattle.definitions.specs.BlockMap.{digits_of, coordinate_of, step_of, address_read, block_read}
use Rattle.definitions.specs.Splits.{same_motion, same_prediction, alike, one_each, fewest_in}
use Rattle.definitions.specs.Record.{record_words, record_at, motion_of, split_said, rule1, rule2, rule3, rule4, rule5, rule6, rule7, first_broken, laid_out}
use Rattle.definitions.specs.Inheriting.{intra_set, gathered, source, clear_of, filled, lower, lowest, having, merged_list, merged, live_of, copied_from, copied, resolved, scaled_prediction, scaled_motion, inherited_motions}
use Rattle.definitions.specs.Detail.{quadrant_detail, detail_at}
use Rattle.definitions.specs.Fed.{blocks_reading, fed_at}
use Rattle.definitions.specs.Answer.{origin_at, basis_at, answer_of, addresses_of, written_for, made_of}
use Rattle.definitions.specs.Refusals.{geometry_tests, record_tests, addresses_read}
use Rattle.definitions.specs.Calls.{macroblock_tests, macroblock_call}
use Rattle.definitions.specs.Examples.{whole_record, whole_case}
use Rattle.definitions.specs.Session.{Call, begin, next, abandon, totals, fresh, begin_verdict, abandon_verdict, next_call, Exchange, begin_gave, next_gave, abandon_gave, totals_gave, exchange, state_next, exchanges, AsPicture}
use Rattle.definitions.specs.Cases.{blank, three_counts}
use Rattle.definitions.proofs.Cases.{computed}
use Rattle.definitions.proofs.SessionPicture.{picture-by-session}

pub whole-session : AsPicture fresh whole_case whole_record (blank 6) (three_counts 4 0 2) (λ a. blank 1)
whole-session = picture-by-session fresh whole_case whole_record (blank 6) (three_counts 4 0 2) (λ a. blank 1) refl computed.whole-counted (λ a h. refl)

-- the number of a refusal; 0 where the call is accepted
abbrev verdict_number : Verdict → ℕ
verdict_number Accepted = 0
verdict_number (Refused r) = r.number

abbrev reply_number : MacroblockReply → ℕ
reply_number (Answered a) = 0
reply_number (Declined r) = r.number

abbrev number_of : Exchange → ℕ
number_of (begin_gave n v) = verdict_number v
number_of (next_gave base words o) = reply_number o.reply
number_of (abandon_gave v) = verdict_number v
number_of (totals_gave c) = 0

-- a geometry that is refused, and the next call
abbrev wrong : Numbers
wrong =
    record {
      horizontal = record { base = pos 16; scaled = pos 32; offset = pos 1; full = pos 48 };
      vertical = record { base = pos 16; scaled = pos 32; offset = pos 0; full = pos 32 };
    }

abbrev on : Call
on = next whole_record (blank 1)

abbrev calls : List Call
calls =
    abandon ∷ on ∷ totals ∷ begin wrong ∷ begin whole_case ∷ begin wrong ∷ next [] (blank 1) ∷ next whole_record [] ∷ next (replicate record_words (pos 9)) (blank 1) ∷ on ∷ abandon ∷ on ∷ begin whole_case
    ∷ on ∷ on ∷ on ∷ on ∷ on ∷ begin whole_case ∷ on ∷ on ∷ abandon ∷ totals ∷ begin whole_case ∷ abandon ∷ []

pub refused-there : map number_of (exchanges fresh calls) ≡ 20 ∷ 20 ∷ 0 ∷ 4 ∷ 0 ∷ 22 ∷ 5 ∷ 6 ∷ 8 ∷ 0 ∷ 0 ∷ 20 ∷ 0 ∷ 0 ∷ 0 ∷ 0 ∷ 0 ∷ 0 ∷ 22 ∷ 0 ∷ 21 ∷ 21 ∷ 0 ∷ 0 ∷ 0 ∷ []
unfolding how_many all_of all_below pick up_to inside_axis m_of n_of f_of two_of columns_read digits_of coordinate_of step_of address_read block_read same_motion same_prediction alike one_each fewest_in record_at motion_of split_said rule1 rule2 rule3 rule4 rule5 rule6 rule7 first_broken laid_out set_of intra_set gathered source clear_of filled lower lowest having merged_list merged some_of live_of copied_from copied resolved scaled_prediction scaled_motion inherited_motions origin_at basis_at quadrant_detail detail_at blocks_reading fed_at answer_of addresses_of written_for made_of geometry_tests record_tests addresses_read macroblock_tests macroblock_call ones ones_in begin_verdict abandon_verdict next_call exchange state_next exchanges
refused-there = refl
