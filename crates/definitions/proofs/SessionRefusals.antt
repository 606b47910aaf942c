-- Next is refused by 20, 21, 5, 6 and 8 only (NextRefusals of specs/Session). Assumes nothing.
use Prim.Native.Nat.{ℕ, ◌<◌}
use mathlib.Core.Path.{◌≡◌, refl, sym, ap, subst, ◌∙◌}
use mathlib.Core.Bool.{Bool, true, false, not}
use mathlib.Core.List.{List, ◌∷◌, Memᴰ}
use native.Mathlib.Omega.{arith}
use lib.IntN.{ℤ, pos}
use borrow.Author.Tests.{eqb-false}
use Rattle.definitions.specs.declared.Numbers.{Numbers}
use Rattle.definitions.specs.declared.Refusal.{Refusal}
use Rattle.definitions.specs.Replies.{Verdict, Accepted}
use Rattle.std.specs.Prelude.{Err as Refused}
use Rattle.definitions.specs.Replies.{MacroblockReply}
use Rattle.std.specs.Prelude.{Err as Declined}
use Rattle.definitions.specs.Basics.{pick}
use Rattle.definitions.specs.Geometry.{axes_of, full_size}
use Rattle.definitions.specs.Record.{narrow}
use Rattle.definitions.specs.Refusals.{refusal, verdict_of, geometry_tests, geometry_verdict, base_test, output_test, position_test, record_tests, addresses_read}
use Rattle.definitions.specs.Calls.{Outcome, macroblock_tests, macroblock_call, sum_of}
use Rattle.definitions.specs.Session.{State, fresh, begun, finished, next_call, state_after, sound, refuses_next, NextRefusals}
use Rattle.definitions.specs.Raster.{full_count, column_at, row_at}
use Rattle.definitions.proofs.Choices.{no, and_intro}
use Rattle.definitions.proofs.Verdicts.{then-verdict, given_by}
use Rattle.definitions.proofs.RecordLists.{records-give}
use Rattle.definitions.proofs.Demand.{within}
use Rattle.definitions.proofs.Sessions.{next-going, next-over, sound-parts, only-sound}
use Rattle.definitions.proofs.Accepted.{column-within, row_within}
use Rattle.definitions.proofs.Rising.{declined}

-- a refusal by one of these numbers
abbrev ByThese : Refusal → Type 0
ByThese r = Memᴰ r.number refuses_next

-- the one-macroblock call at an address of an accepted geometry
call-these : (n : Numbers) (base words : List ℤ) (address : ℕ) → geometry_verdict n ≡ Accepted → address < full_count (axes_of n)
    → (r : Refusal) → verdict_of (macroblock_tests narrow n base (pos (column_at (axes_of n) address)) (pos (row_at (axes_of n) address)) words) ≡ Refused r → ByThese r
unfolding macroblock_tests
call-these n base words address v h r e =
    let g = axes_of n in
    let column = column_at g address in
    let row = row_at g address in
    let records = record_tests narrow base (addresses_read g column row) in
    let position = position_test g (pos column) (pos row) in
    let inside : position.applies ≡ false = ap not (and_intro (within (full_size g.horizontal) column (column-within n v address)) (within (full_size g.vertical) row (row_within n v address h))) in
    let eight : ByThese (refusal 8) = Memᴰ.tail (Memᴰ.tail (Memᴰ.tail (Memᴰ.tail (Memᴰ.head refl)))) in
    given_by ByThese (base_test g base ∷ output_test 1 words ∷ records)
    (Memᴰ.tail (Memᴰ.tail (Memᴰ.head refl)), (Memᴰ.tail (Memᴰ.tail (Memᴰ.tail (Memᴰ.head refl))), records-give narrow ByThese base (addresses_read g column row) (λ a m. eight))) r
    (ap (λ (u : Verdict). pick (base_test g base).applies (Refused (refusal 5)) (pick (output_test 1 words).applies (Refused (refusal 6)) u)) (sym (no _ _ inside)) ∙ (sym (then-verdict (geometry_tests n) _ v) ∙ e))

pub state-these : (s : State) → sound s ≡ true → (base words : List ℤ) (r : Refusal) → (next_call s base words).reply ≡ Declined r → ByThese r
unfolding next_call pick macroblock_call
state-these fresh h base words r e = let q : refusal 20 ≡ r = cc in subst ByThese q (Memᴰ.head refl)
state-these (begun n c) h base words r e = by (finished (begun n c)) refl
  where
    by : (b : Bool) → finished (begun n c) ≡ b → ByThese r
    by true f =
        let q : refusal 21 ≡ r = cc (sym (ap (λ (o : Outcome MacroblockReply). o.reply) (next-over n c base words f)) ∙ e) in
        subst ByThese q (Memᴰ.tail (Memᴰ.head refl))
    by false f =
        let held = sound-parts n c h in
        let other = eqb-false (sum_of c) (full_count (axes_of n)) f in
        let room : sum_of c < full_count (axes_of n) = omega (arith, held.1) in
        call-these n base words (sum_of c) held.0 room r
        (declined narrow n base _ _ words r (sym (ap (λ (o : Outcome MacroblockReply). o.reply) (next-going n c base words f)) ∙ e))

pub next-refusals : NextRefusals
next-refusals calls base words r = state-these (state_after fresh calls) (only-sound calls) base words r
