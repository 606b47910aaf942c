-- What each call gives and hands back, stage by stage. Assumes nothing.
use Prim.Native.Nat.{ℕ, ◌<◌, ◌^◌}
use mathlib.Core.Path.{◌≡◌, refl, sym, ap, subst, ◌∙◌}
use mathlib.Core.Bool.{true, false, not}
use mathlib.Core.List.{List, map}
use Rattle.std.proofs.lemmas.List.{map-id}
use mir.Facts.{to_z_pos}
use mir.Syntax.{w32}
use mir.Val.{to_z}
use native.Mathlib.Nat.{div-le_self, mod-le}
use native.Mathlib.Omega.{arith}
use lib.IntN.{ℤ, pos}
use borrow.Author.Tests.{eqb-false}
use Rattle.definitions.specs.declared.Numbers.{Numbers}
use Rattle.definitions.specs.declared.Counts.{Counts}
use Rattle.definitions.specs.declared.Refusal.{Refusal}
use Rattle.definitions.specs.Replies.{Verdict, Accepted}
use Rattle.std.specs.Prelude.{Err as Refused}
use Rattle.definitions.specs.Replies.{MacroblockReply}
use Rattle.std.specs.Prelude.{Ok as Answered, Err as Declined}
use Rattle.definitions.specs.Record.{narrow}
use Rattle.definitions.specs.Basics.{pick}
use Rattle.definitions.specs.Geometry.{axes_of, full_size, macroblocks}
use Rattle.definitions.specs.Refusals.{refusal, geometry_verdict}
use Rattle.definitions.specs.Calls.{Outcome, macroblock_call, no_counts, sum_of}
use Rattle.definitions.specs.Session.{begin, next, abandon, totals, State, begun, totals_of, unfinished, begin_verdict, abandon_verdict, next_call, begin_gave, next_gave, abandon_gave, exchange, advanced, sound}
use Rattle.definitions.specs.Raster.{full_count}
use Rattle.definitions.proofs.Choices.{yes, no}
use Rattle.definitions.proofs.Accepted.{accepted-axes}
use Rattle.definitions.proofs.Sessions.{next-going, next-over, sound-parts}
use Rattle.common.proofs.Sizes.{full-small}
use Rattle.session.specs.declared.Session.{Session}
use Rattle.session.specs.declared.Stage.{Stage}
use Rattle.session.specs.declared.Stage.TheVariants.{Nothing, Unfinished, Finished}
use Rattle.session.specs.Values.{fresh_session, value_of, state_of, handed_by, HandsBack, advanced_by}
use Rattle.session.specs.Stage.{stage_of}
use Rattle.session.specs.Promised.{NextPromised, TotalsPromised}
use Rattle.session.proofs.Values.{state-sound, hands-back}
use Rattle.session.proofs.Promises.{next-promised, totals-promised}
use Rattle.session.proofs.Stages.{nothing-begun, Going, going, Over, over-of}

module _ (v : Session) where
  -- ---- begin
  abbrev Began : Numbers → Verdict → Session → Type 0
  Began n verdict w = (verdict ≡ begin_verdict (state_of v) n) × HandsBack v (begin n) w

  begin-refused : (n : Numbers) (r : Refusal) → begin_verdict (state_of v) n ≡ Refused r → Began n (Refused r) v
  unfolding exchange handed_by pick
  begin-refused n r e = (sym e, hands-back v (begin n) v (sym (ap (λ (x : Verdict). handed_by v (begin_gave n x)) e)))

  begin-accepted : (n : Numbers) → begin_verdict (state_of v) n ≡ Accepted → Began n Accepted (record { begun = true; numbers = n; counts = no_counts })
  unfolding exchange handed_by pick
  begin-accepted n e = (sym e, hands-back v (begin n) _ (sym (ap (λ (x : Verdict). handed_by v (begin_gave n x)) e)))

  module _ (n : Numbers) (free : unfinished (state_of v) ≡ false) where
    free-verdict : begin_verdict (state_of v) n ≡ geometry_verdict n
    unfolding begin_verdict
    free-verdict = no _ _ free

    pub begin-wrong : (r : Refusal) → geometry_verdict n ≡ Refused r → Began n (Refused r) v
    begin-wrong r e = begin-refused n r (free-verdict ∙ e)

    pub begin-right : geometry_verdict n ≡ Accepted → Began n Accepted (record { begun = true; numbers = n; counts = no_counts })
    begin-right e = begin-accepted n (free-verdict ∙ e)

  -- ---- abandon
  abbrev Left : Verdict → Session → Type 0
  Left verdict w = (verdict ≡ abandon_verdict (state_of v)) × HandsBack v abandon w

  abandon-refused : (r : Refusal) → abandon_verdict (state_of v) ≡ Refused r → Left (Refused r) v
  unfolding exchange handed_by pick
  abandon-refused r e = (sym e, hands-back v abandon v (sym (ap (λ (x : Verdict). handed_by v (abandon_gave x)) e)))

  -- ---- totals
  totals-keep : HandsBack v totals v
  unfolding exchange handed_by pick
  totals-keep = hands-back v totals v refl

  abbrev Totals : Counts → Session → Type 0
  Totals c w = (c ≡ totals_of (state_of v)) × (HandsBack v totals w × TotalsPromised v c)

  pub totals-begun : state_of v ≡ begun v.numbers v.counts → Totals v.counts v
  totals-begun s = let e = sym (ap totals_of s) in (e, (totals-keep, totals-promised v v.counts e))

  -- ---- next
  module _ (base words : List ℤ) where
    abbrev Gone : MacroblockReply → List ℤ → Session → Type 0
    Gone reply after w =
        (reply ≡ (next_call (state_of v) base words).reply)
        × ((after ≡ (next_call (state_of v) base words).words) × (HandsBack v (next base words) w × NextPromised (state_of v) base words reply after))

    gone : (reply : MacroblockReply) (after : List ℤ) (w : Session) → reply ≡ (next_call (state_of v) base words).reply
        → after ≡ (next_call (state_of v) base words).words → HandsBack v (next base words) w → Gone reply after w
    gone reply after w r a b = (r, (a, (b, next-promised (state_of v) (state-sound v) base words reply after r a)))

    next-refused : (r : Refusal) → next_call (state_of v) base words ≡ record { reply = Declined r; words = words } → Gone (Declined r) words v
    unfolding exchange handed_by pick
    next-refused r e =
        gone (Declined r) words v (sym (ap (λ (o : Outcome MacroblockReply). o.reply) e)) (sym (ap (λ (o : Outcome MacroblockReply). o.words) e))
        (hands-back v (next base words) v (sym (ap (λ (o : Outcome MacroblockReply). handed_by v (next_gave base words o)) e)))

    module _ {x y : ℕ} (g : Going v x y) where
      at_next : next_call (state_of v) base words ≡ macroblock_call narrow v.numbers base (pos x) (pos y) words
      at_next =
          ap (λ (t : State). next_call t base words) g.state
          ∙ (next-going v.numbers v.counts base words g.on ∙ (λ i. macroblock_call narrow v.numbers base (pos (sym g.column-is i)) (pos (sym g.row_is i)) words))

      handed-next : (o : Outcome MacroblockReply) (reply : MacroblockReply) → o.reply ≡ reply → advanced_by reply v ≡ handed_by v (next_gave base words o)
      unfolding handed_by pick
      handed-next o reply e = by reply ∙ (λ i. handed_by v (next_gave base words (record { reply = sym e i; words = o.words })))
        where
          by : (r : MacroblockReply) → advanced_by r v ≡ handed_by v (next_gave base words (record { reply = r; words = o.words }))
          by (Answered a) = ap (λ (t : State). value_of (advanced (Answered a) t)) (sym g.state)
          by (Declined r) = refl

      pub next-done : (reply : MacroblockReply) (after : List ℤ) (w : Session) → reply ≡ (macroblock_call narrow v.numbers base (pos x) (pos y) words).reply
          → after ≡ (macroblock_call narrow v.numbers base (pos x) (pos y) words).words → w ≡ advanced_by reply v → Gone reply after w
      unfolding exchange
      next-done reply after w a b e =
          let p : reply ≡ (next_call (state_of v) base words).reply = a ∙ sym (ap (λ (o : Outcome MacroblockReply). o.reply) at_next) in
          gone reply after w p (b ∙ sym (ap (λ (o : Outcome MacroblockReply). o.words) at_next)) (hands-back v (next base words) w (e ∙ handed-next (next_call (state_of v) base words) reply (sym p)))

  -- what is counted, and the next macroblock's column and row, are small
  small-of : {x y : ℕ} → Going v x y → (sum_of v.counts < 65536) × (x < 65536) × (y < 65536)
  small-of g =
      let s = sound-parts v.numbers v.counts (subst (λ (t : State). sound t ≡ true) g.state (state-sound v)) in
      let axes = accepted-axes v.numbers s.0 in
      let few = full-small (axes_of v.numbers) axes in
      let other = eqb-false (sum_of v.counts) (full_count (axes_of v.numbers)) g.on in
      let made : sum_of v.counts < 65536 = omega (arith, few, s.1) in
      let width = macroblocks (full_size (axes_of v.numbers).horizontal) in
      (made, omega (arith, mod-le (sum_of v.counts) width, g.column-is), omega (arith, div-le_self (sum_of v.counts) width, g.row_is))

  -- ---- the calls, by the stage that is found
  module _ {s : Stage} (found : s ≡ stage_of (state_of v)) where
    nothing : s ≡ Nothing → stage_of (state_of v) ≡ Nothing
    nothing is = sym found ∙ is

    on : {x y : ℕ} → s ≡ Unfinished x y → Going v x y
    on is = going v _ _ (sym found ∙ is)

    over : s ≡ Finished → Over v
    over is = over-of v (sym found ∙ is)

    pub free-nothing : s ≡ Nothing → unfinished (state_of v) ≡ false
    free-nothing is = ap unfinished (nothing-begun (state_of v) (nothing is))

    pub free-over : s ≡ Finished → unfinished (state_of v) ≡ false
    free-over is = ap unfinished (over is).state ∙ ap not (over is).over

    pub begin-busy : {x y : ℕ} → s ≡ Unfinished x y → (n : Numbers) (r : Refusal) → r ≡ refusal 22 → Began n (Refused r) v
    unfolding begin_verdict
    begin-busy is n r e = begin-refused n r (yes _ _ (ap unfinished (on is).state ∙ ap not (on is).on) ∙ ap Refused (sym e))

    pub abandon-nothing : s ≡ Nothing → (r : Refusal) → r ≡ refusal 20 → Left (Refused r) v
    unfolding abandon_verdict pick
    abandon-nothing is r e = abandon-refused r (ap abandon_verdict (nothing-begun (state_of v) (nothing is)) ∙ ap Refused (sym e))

    pub abandon-over : s ≡ Finished → (r : Refusal) → r ≡ refusal 21 → Left (Refused r) v
    unfolding abandon_verdict pick
    abandon-over is r e = abandon-refused r (ap abandon_verdict (over is).state ∙ (yes _ _ (over is).over ∙ ap Refused (sym e)))

    pub abandon-going : {x y : ℕ} → s ≡ Unfinished x y → (w : Session) → w ≡ fresh_session → Left Accepted w
    unfolding abandon_verdict exchange handed_by pick
    abandon-going is w z =
        let e : abandon_verdict (state_of v) ≡ Accepted = ap abandon_verdict (on is).state ∙ no _ _ (on is).on in
        (sym e, hands-back v abandon w (z ∙ sym (ap (λ (x : Verdict). handed_by v (abandon_gave x)) e)))

    pub totals-nothing : s ≡ Nothing → Totals no_counts v
    totals-nothing is = let e = sym (ap totals_of (nothing-begun (state_of v) (nothing is))) in (e, (totals-keep, totals-promised v no_counts e))

    pub totals-going : {x y : ℕ} → s ≡ Unfinished x y → Totals v.counts v
    totals-going is = totals-begun (on is).state

    pub totals-over : s ≡ Finished → Totals v.counts v
    totals-over is = totals-begun (over is).state

    pub next_small : {x y : ℕ} → s ≡ Unfinished x y → (sum_of v.counts < 65536) × (x < 65536) × (y < 65536)
    next_small is = small-of (on is)

    module _ (base words : List ℤ) where
      pub next-nothing : s ≡ Nothing → (r : Refusal) → r ≡ refusal 20 → Gone base words (Declined r) words v
      unfolding next_call pick
      next-nothing is r e =
          next-refused base words r
          (ap (λ (t : State). next_call t base words) (nothing-begun (state_of v) (nothing is)) ∙ (λ i. record { reply = Declined (sym e i); words = words }))

      pub next-after : s ≡ Finished → (r : Refusal) → r ≡ refusal 21 → Gone base words (Declined r) words v
      next-after is r e =
          next-refused base words r
          (ap (λ (t : State). next_call t base words) (over is).state
          ∙ (next-over v.numbers v.counts base words (over is).over ∙ (λ i. record { reply = Declined (sym e i); words = words })))

      -- what the one-macroblock call gives at 16 bits, whose words are their own numbers
      pub next-on : {x y : ℕ} → s ≡ Unfinished x y → (reply : MacroblockReply) (after : List ℤ) (w : Session)
          → reply ≡ (macroblock_call narrow v.numbers (map (λ z. z) base) (to_z w32 x) (to_z w32 y) (map (λ z. z) words)).reply
          → map (λ z. z) after ≡ (macroblock_call narrow v.numbers (map (λ z. z) base) (to_z w32 x) (to_z w32 y) (map (λ z. z) words)).words
          → w ≡ advanced_by reply v → Gone base words reply after w
      next-on {x} {y} is reply after w a b e =
          let small = next_small is in
          let low : x < 2 ^ 31 = omega (arith, small.1) in
          let high : y < 2 ^ 31 = omega (arith, small.2) in
          let p = to_z_pos w32 low in
          let q = to_z_pos w32 high in
          let same : macroblock_call narrow v.numbers (map (λ z. z) base) (to_z w32 x) (to_z w32 y) (map (λ z. z) words) ≡ macroblock_call narrow v.numbers base (pos x) (pos y) words =
          λ i. macroblock_call narrow v.numbers (map-id base i) (p i) (q i) (map-id words i) in
          next-done base words (on is) reply after w (a ∙ ap (λ (o : Outcome MacroblockReply). o.reply) same)
          (sym (map-id after) ∙ (b ∙ ap (λ (o : Outcome MacroblockReply). o.words) same)) e
