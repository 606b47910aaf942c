-- The stages of the one-macroblock call (specs/Sited), each refusal where it applies, are the call of document 01. Assumes nothing.
use Prim.Native.Nat.{ℕ, ◌*◌, ◌<◌}
use mathlib.Core.Path.{◌≡◌, refl, sym, ap, subst, ◌∙◌}
use mathlib.Core.Bool.{Bool, true, false, not, ◌&&◌}
use mathlib.Core.List.{List, [], ◌∷◌, ◌++◌, append_assoc}
use native.Mathlib.Omega.{arith}
use lib.Dec.{T, eqb}
use lib.IntN.{ℤ, nat_abs}
use lib.ListN.{length}
use lib.Signed.{non_neg}
use mir.Syntax.{w32}
use mir.Val.{Fits}
use borrow.Author.Tests.{eqb-true, not-false}
use Rattle.definitions.specs.declared.Axes.{Axes}
use Rattle.definitions.specs.declared.Numbers.{Numbers}
use Rattle.definitions.specs.declared.Refusal.{Refusal}
use Rattle.definitions.specs.Replies.{Verdict, Accepted}
use Rattle.std.specs.Prelude.{Err as Refused}
use Rattle.definitions.specs.Replies.{MacroblockReply}
use Rattle.std.specs.Prelude.{Ok as Answered, Err as Declined}
use Rattle.definitions.specs.Accepted.{AcceptedAxes}
use Rattle.definitions.specs.Geometry.{axes_of, full_size}
use Rattle.definitions.specs.Record.{record_words}
use Rattle.definitions.specs.Answer.{Made, made_of}
use Rattle.definitions.specs.Refusals.{Test, refusal, verdict_of, geometry_tests, geometry_verdict, base_test, output_test, position_test, within_axis, record_tests, addresses_read}
use Rattle.definitions.specs.Calls.{Outcome, by_verdict, macroblock_tests, macroblock_call}
use Rattle.definitions.specs.Raster.{base_count}
use Rattle.definitions.proofs.Accepted.{accepted-axes}
use Rattle.definitions.proofs.Choices.{yes, no, both_true}
use Rattle.definitions.proofs.Demand.{within_low}
use Rattle.definitions.proofs.RecordLists.{all-formed}
use Rattle.definitions.proofs.Verdicts.{then-verdict, refused-first, both-passed, first-passed}
use Rattle.common.specs.Bases.{BaseRight}
use Rattle.macroblock.specs.declared.AxisRead.{AxisRead}
use Rattle.macroblock.specs.Made.{answer_by, fixed_of, made_by, read_of, written_by}
use Rattle.macroblock.proofs.Paper.{placed_by}
use Rattle.upsample.specs.declared.site.Site.{Site}
use Rattle.std.specs.Prelude.{Ok as At, Err as Wrong}
use Rattle.upsample.specs.Sited.{Callable, Placed, Placing, place_tests, placing_by, placing_in, placing_of, runs_of, site_by, site_call, site_of}
use Rattle.upsample.proofs.Naming.{runs-inside, runs-outside, upper_in, lower_in}
use Rattle.upsample.proofs.Readiness.{Known, known_of}
use Rattle.upsample.proofs.Within.{within-natural}

-- what a call hands back and leaves, as an outcome says
abbrev pub Handed : {Reply : Type 0} → Reply → List ℤ → Outcome Reply → Type 0
Handed reply words outcome = (reply ≡ outcome.reply) × (words ≡ outcome.words)

pub handed : {Reply : Type 0} (reply : Reply) (words : List ℤ) (outcome : Outcome Reply) → outcome ≡ record { reply = reply; words = words } → Handed reply words outcome
handed {Reply} reply words outcome e = (sym (ap (λ (o : Outcome Reply). o.reply) e), sym (ap (λ (o : Outcome Reply). o.words) e))

-- ---- refusal 8, or the answer
module _ (limit : ℕ) (s : Site) (base words : List ℤ) where
  abbrev answers : Outcome MacroblockReply
  answers = record { reply = Answered (answer_by s.fixed s.h s.v base); words = written_by s.fixed s.h s.v base }

  abbrev verdict : Verdict
  verdict = verdict_of (record_tests limit base (runs_of s.upper s.lower))

  pub site-refused : (r : Refusal) → verdict ≡ Refused r → Handed (Declined r) words (site_call limit s base words)
  unfolding site_call
  site-refused r e = handed _ _ _ (ap (λ (v : Verdict). by_verdict v Declined words answers) e)

  pub site-answered : verdict ≡ Accepted → Handed (Answered (answer_by s.fixed s.h s.v base)) (written_by s.fixed s.h s.v base) (site_call limit s base words)
  unfolding site_call
  site-answered e = handed _ _ _ (ap (λ (v : Verdict). by_verdict v Declined words answers) e)

-- at a macroblock of an accepted geometry
module _ (g : Axes) (base : List ℤ) (right : BaseRight g base) (column row : ℕ) where
  abbrev h : AxisRead
  h = read_of g.horizontal column

  abbrev v : AxisRead
  v = read_of g.vertical row

  abbrev there : Site
  there = site_of (record { axes = g; column = column; row = row })

  known : Known g base right column row h v
  known = known_of g base right column row h v refl refl

  runs-read : addresses_read g column row ≡ runs_of there.upper there.lower
  runs-read = by (h.inside && v.inside) refl
    where
      by : (t : Bool) → (h.inside && v.inside) ≡ t → addresses_read g column row ≡ runs_of there.upper there.lower
      by true e = known.named e ∙ sym (runs-inside g h v e)
      by false e = known.unnamed e ∙ sym (runs-outside g h v e)

  module _ (limit : ℕ) (words : List ℤ) where
    callable : length words ≡ record_words → Callable limit there base words
    unfolding site_by
    callable l = record {
      upper = upper_in g h v base known.named-below;
      lower = lower_in g h v base known.named-below;
      makeable = λ e t. known.made-ready t (all-formed limit base (addresses_read g column row) (ap (λ (a : List ℕ). verdict_of (record_tests limit base a)) runs-read ∙ e));
      lent = l;
    }

    abbrev made : Made
    made = made_of g base column row

    site-is : by_verdict (verdict_of (record_tests limit base (addresses_read g column row))) Declined words (record { reply = Answered made.answer; words = made.written })
        ≡ site_call limit there base words
    unfolding site_call site_by made_by
    site-is =
        let m : made ≡ made_by (fixed_of g) h v base = placed_by g right.axes column row base in
        λ i. by_verdict (verdict_of (record_tests limit base (runs-read i))) Declined words (record { reply = Answered (m i).answer; words = (m i).written })

-- ---- a column and row that 7 passes
pub record There (column row : ℤ) : Type 0 where
  pub column-natural : T (non_neg column)
  pub column-low : nat_abs column < 256
  pub column-fits : Fits w32 (nat_abs column)
  pub row_natural : T (non_neg row)
  pub row_low : nat_abs row < 256
  pub row_fits : Fits w32 (nat_abs row)

pub place-there : (g : Axes) → AcceptedAxes g → (column row : ℤ) → (within_axis (full_size g.horizontal) column && within_axis (full_size g.vertical) row) ≡ true → There column row
place-there g a column row e =
    let within = both_true (within_axis (full_size g.horizontal) column) (within_axis (full_size g.vertical) row) e in
    let x = within_low (full_size g.horizontal) column within.0 in
    let y = within_low (full_size g.vertical) row within.1 in
    record {
      column-natural = within-natural (full_size g.horizontal) column within.0;
      column-low = omega (arith, x, a.horizontal.full-high);
      column-fits = record { fits = omega (arith, x, a.horizontal.full-high) };
      row_natural = within-natural (full_size g.vertical) row within.1;
      row_low = omega (arith, y, a.vertical.full-high);
      row_fits = record { fits = omega (arith, y, a.vertical.full-high) };
    }

-- ---- refusals 5 to 7
module _ (g : Axes) (base : List ℤ) (column row : ℤ) (words : List ℤ) where
  abbrev placed : Placing
  placed = placing_in g base column row words

  by_tests : (v : Verdict) → verdict_of (place_tests g base column row words) ≡ v → placing_by v g column row ≡ placed
  unfolding placing_in
  by_tests v e = ap (λ (u : Verdict). placing_by u g column row) (sym e)

  pub wrong-base : eqb (length base) (record_words * base_count g) ≡ false → Wrong (refusal 5) ≡ placed
  unfolding place_tests
  wrong-base n = by_tests _ (yes _ _ (ap not n))

  module _ (base-right : eqb (length base) (record_words * base_count g) ≡ true) where
    base-passed : (base_test g base).applies ≡ false
    base-passed = ap not base-right

    pub wrong-output : eqb (length words) (record_words * 1) ≡ false → Wrong (refusal 6) ≡ placed
    unfolding place_tests
    wrong-output n = by_tests _ (no _ _ base-passed ∙ yes _ _ (ap not n))

    module _ (output-right : eqb (length words) (record_words * 1) ≡ true) where
      output-passed : (output_test 1 words).applies ≡ false
      output-passed = ap not output-right

      pub wrong-position : (within_axis (full_size g.horizontal) column && within_axis (full_size g.vertical) row) ≡ false → Wrong (refusal 7) ≡ placed
      unfolding place_tests
      wrong-position n = by_tests _ (no _ _ base-passed ∙ (no _ _ output-passed ∙ yes _ _ (ap not n)))

      pub right-position : (within_axis (full_size g.horizontal) column && within_axis (full_size g.vertical) row) ≡ true → At (record { axes = g; column = nat_abs column; row = nat_abs row }) ≡ placed
      unfolding place_tests
      right-position n = by_tests _ (no _ _ base-passed ∙ (no _ _ output-passed ∙ no _ _ (ap not n)))

-- ---- refusals 1 to 4
module _ (n : Numbers) (base : List ℤ) (column row : ℤ) (words : List ℤ) where
  abbrev g : Axes
  g = axes_of n

  abbrev places : List Test
  places = place_tests g base column row words

  abbrev place : Placed
  place = record { axes = g; column = nat_abs column; row = nat_abs row }

  abbrev placing : Placing
  placing = placing_of n base column row words

  pub wrong-geometry : (r : Refusal) → geometry_verdict n ≡ Refused r → Wrong r ≡ placing
  unfolding placing_of
  wrong-geometry r e = sym (ap (λ (u : Verdict). placing_by u g column row) (refused-first (geometry_tests n) places r e))

  pub right-geometry : geometry_verdict n ≡ Accepted → placing_in g base column row words ≡ placing
  unfolding placing_of placing_in
  right-geometry e = sym (ap (λ (u : Verdict). placing_by u g column row) (then-verdict (geometry_tests n) places e))

  -- ---- the call, by what 1 to 7 gave
  given : (p : Placed) → placing ≡ At p → (verdict_of (geometry_tests n ++ places) ≡ Accepted) × (place ≡ p)
  unfolding placing_of
  given p = by (verdict_of (geometry_tests n ++ places))
    where
      by : (v : Verdict) → placing_by v g column row ≡ At p → (v ≡ Accepted) × (place ≡ p)
      by Accepted e = (refl, cc)
      by (Refused r) e = (cc, cc)

  declined : (r : Refusal) → placing ≡ Wrong r → verdict_of (geometry_tests n ++ places) ≡ Refused r
  unfolding placing_of
  declined r = by (verdict_of (geometry_tests n ++ places))
    where
      by : (v : Verdict) → placing_by v g column row ≡ Wrong r → v ≡ Refused r
      by Accepted e = cc
      by (Refused q) e = cc

  pub place-low : (p : Placed) → placing ≡ At p → AcceptedAxes p.axes × (p.column < 256) × (p.row < 256)
  unfolding place_tests
  place-low p e =
      let k = given p e in
      let passed = both-passed (geometry_tests n) places k.0 in
      let b = first-passed (base_test g base) (output_test 1 words ∷ position_test g column row ∷ []) passed.1 in
      let o = first-passed (output_test 1 words) (position_test g column row ∷ []) b.1 in
      let t = first-passed (position_test g column row) [] o.1 in
      let within = both_true (within_axis (full_size g.horizontal) column) (within_axis (full_size g.vertical) row) (not-false _ t.0) in
      let a = accepted-axes n passed.0 in
      let x = within_low (full_size g.horizontal) column within.0 in
      let y = within_low (full_size g.vertical) row within.1 in
      subst (λ (q : Placed). AcceptedAxes q.axes × (q.column < 256) × (q.row < 256)) k.1 (a, omega (arith, a.horizontal.full-high), omega (arith, a.vertical.full-high))

  module _ (limit : ℕ) where
    abbrev call : Outcome MacroblockReply
    call = macroblock_call limit n base column row words

    abbrev records : List Test
    records = record_tests limit base (addresses_read g (nat_abs column) (nat_abs row))

    abbrev whole : Outcome MacroblockReply
    whole = let made = made_of g base (nat_abs column) (nat_abs row) in record { reply = Answered made.answer; words = made.written }

    pub wrong-place : (r : Refusal) → placing ≡ Wrong r → Handed (Declined r) words call
    unfolding macroblock_call macroblock_tests place_tests
    wrong-place r e =
        let t : verdict_of (geometry_tests n ++ (places ++ records)) ≡ Refused r = ap verdict_of (sym (append_assoc (geometry_tests n) places records)) ∙ refused-first (geometry_tests n ++ places) records r (declined r e) in
        handed _ _ _ (ap (λ (u : Verdict). by_verdict u Declined words whole) t)

    pub right-place : (p : Placed) → placing ≡ At p → Callable limit (site_of p) base words × (site_call limit (site_of p) base words ≡ call)
    unfolding macroblock_call macroblock_tests place_tests
    right-place p e =
        let k = given p e in
        let passed = both-passed (geometry_tests n) places k.0 in
        let b = first-passed (base_test g base) (output_test 1 words ∷ position_test g column row ∷ []) passed.1 in
        let o = first-passed (output_test 1 words) (position_test g column row ∷ []) b.1 in
        let right : BaseRight g base = record { axes = accepted-axes n passed.0; base-length = eqb-true _ _ (not-false _ b.0) } in
        let c = callable g base right (nat_abs column) (nat_abs row) limit words (eqb-true (length words) record_words (not-false _ o.0)) in
        let t : verdict_of (geometry_tests n ++ (places ++ records)) ≡ verdict_of records =
        then-verdict (geometry_tests n) (places ++ records) passed.0 ∙ then-verdict places records passed.1 in
        let w = ap (λ (u : Verdict). by_verdict u Declined words whole) t ∙ site-is g base right (nat_abs column) (nat_abs row) limit words in
        (subst (λ (x : Placed). Callable limit (site_of x) base words) k.1 c, ap (λ (x : Placed). site_call limit (site_of x) base words) (sym k.1) ∙ sym w)
