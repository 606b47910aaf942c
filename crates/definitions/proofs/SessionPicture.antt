-- A session's begin and all its next calls on one base do what the picture call does (PictureBySession of specs/Session). Assumes nothing.
use Prim.Native.Nat.{ℕ, zero, suc, ◌≤◌, ◌<◌}
use mathlib.Core.Path.{◌≡◌, refl, sym, ap, ◌∙◌}
use mathlib.Core.Bool.{false, not}
use mathlib.Core.List.{List, [], ◌∷◌, ◌++◌}
use native.Mathlib.Omega.{arith}
use lib.IntN.{ℤ}
use lib.ListN.{length}
use borrow.Author.Tests.{eq-eqb, ne_eqb}
use Rattle.definitions.specs.declared.Axes.{Axes}
use Rattle.definitions.specs.declared.Numbers.{Numbers}
use Rattle.definitions.specs.Replies.{Accepted}
use Rattle.std.specs.Prelude.{Ok as Answered}
use Rattle.definitions.specs.Basics.{up_to, for_each}
use Rattle.definitions.specs.Geometry.{axes_of}
use Rattle.definitions.specs.Record.{record_words, narrow}
use Rattle.definitions.specs.Answer.{Made}
use Rattle.definitions.specs.Refusals.{geometry_verdict}
use Rattle.definitions.specs.Calls.{call_at, made_at, no_counts, counts_of, sum_of}
use Rattle.definitions.specs.Session.{Call, begin, next, totals, State, begun, finished, unfinished, call_at_next, begin_verdict, Exchange, begin_gave, next_gave, totals_gave, exchange, state_by, state_next, exchanges, state_after, next_made, words_after, PictureBySession}
use Rattle.definitions.specs.Raster.{full_count}
use Rattle.definitions.proofs.Choices.{no}
use Rattle.definitions.proofs.RecordLists.{each_same}
use Rattle.definitions.proofs.Counting.{counts-more, counts-sum}
use Rattle.definitions.proofs.Demand.{Passed, passed, counted-accepted, counted-made, picture-words}
use Rattle.definitions.proofs.Singly.{call-gives}
use Rattle.definitions.proofs.Sessions.{next-going}

-- ---- calls after others
exchanges-then : (s : State) (xs ys : List Call) → exchanges s (xs ++ ys) ≡ exchanges s xs ++ exchanges (state_after s xs) ys
unfolding exchanges state_after
exchanges-then s [] ys = refl
exchanges-then s (x ∷ xs) ys = ap (λ (l : List Exchange). exchange s x ∷ l) (exchanges-then (state_next s x) xs ys)

state-then : (s : State) (xs ys : List Call) → state_after s (xs ++ ys) ≡ state_after (state_after s xs) ys
unfolding state_after
state-then s [] ys = refl
state-then s (x ∷ xs) ys = state-then (state_next s x) xs ys

-- ---- begin
module _ (s : State) (n : Numbers) (free : unfinished s ≡ false) (accepted : geometry_verdict n ≡ Accepted) where
  begins : exchange s (begin n) ≡ begin_gave n Accepted
  unfolding exchange begin_verdict
  begins = ap (begin_gave n) (no _ _ free ∙ accepted)

  begins-state : state_next s (begin n) ≡ begun n no_counts
  unfolding state_next
  begins-state = ap (state_by s) begins

-- ---- next
module _ (n : Numbers) (base words : List ℤ) (lent : ℕ → List ℤ) (p : Passed narrow n words base) (l : (a : ℕ) → a < full_count (axes_of n) → length (lent a) ≡ record_words) where
  abbrev g : Axes
  g = axes_of n

  abbrev made : ℕ → Made
  made = made_at g base

  abbrev calls : ℕ → Call
  calls a = next base (lent a)

  -- a call that is answered with what is made at its address
  abbrev given : ℕ → Exchange
  given a = next_made base (lent a) (made a)

  abbrev at : ℕ → State
  at k = begun n (counts_of (up_to k made))

  answers_at : (k : ℕ) → k < full_count g → call_at_next (at k) base (lent k) ≡ record { reply = Answered (made k).answer; words = (made k).written }
  answers_at k h = ap (λ (a : ℕ). call_at narrow n base a (lent k)) (counts-sum k made) ∙ call-gives narrow n base words p k h (lent k) (l k h)

  going_on : (k : ℕ) → k < full_count g → finished (at k) ≡ false
  going_on k h = ne_eqb (sum_of (counts_of (up_to k made))) (full_count g) (λ e. omega (arith, counts-sum k made))

  gives-next : (k : ℕ) → k < full_count g → exchange (at k) (calls k) ≡ given k
  unfolding exchange
  gives-next k h = ap (next_gave base (lent k)) (next-going n (counts_of (up_to k made)) base (lent k) (going_on k h) ∙ answers_at k h)

  state-next : (k : ℕ) → k < full_count g → state_next (at k) (calls k) ≡ at (suc k)
  unfolding state_next
  state-next k h = ap (state_by (at k)) (gives-next k h) ∙ ap (begun n) (sym (counts-more k made))

  state-at : (k : ℕ) → k ≤ full_count g → state_after (begun n no_counts) (up_to k calls) ≡ at k
  unfolding up_to state_after counts_of
  state-at zero h = refl
  state-at (suc k) h =
      state-then (begun n no_counts) (up_to k calls) (calls k ∷ [])
      ∙ (ap (λ (s : State). state_next s (calls k)) (state-at k (omega arith)) ∙ state-next k (omega arith))

  gives_all : (k : ℕ) → k ≤ full_count g → exchanges (begun n no_counts) (up_to k calls) ≡ up_to k given
  unfolding up_to exchanges
  gives_all zero h = refl
  gives_all (suc k) h =
      exchanges-then (begun n no_counts) (up_to k calls) (calls k ∷ [])
      ∙ ((λ i. gives_all k (omega arith) i ++ (exchange (state-at k (omega arith) i) (calls k) ∷ []))
      ∙ ap (λ (e : Exchange). up_to k given ++ (e ∷ [])) (gives-next k (omega arith)))

  -- ---- begin, and then next
  module _ (s : State) (free : unfinished s ≡ false) where
    state-from : (k : ℕ) → k ≤ full_count g → state_after s (begin n ∷ up_to k calls) ≡ at k
    unfolding state_after
    state-from k h = ap (λ (t : State). state_after t (up_to k calls)) (begins-state s n free p.geometry) ∙ state-at k h

    gives-from : (k : ℕ) → k ≤ full_count g → exchanges s (begin n ∷ up_to k calls) ≡ begin_gave n Accepted ∷ up_to k given
    unfolding exchanges
    gives-from k h =
        (λ i. begins s n free p.geometry i ∷ exchanges (begins-state s n free p.geometry i) (up_to k calls))
        ∙ ap (λ (l : List Exchange). begin_gave n Accepted ∷ l) (gives_all k h)

pub picture-by-session : PictureBySession
unfolding exchange
picture-by-session s n base words counts lent free e l =
    let g = axes_of n in
    let v = counted-accepted narrow n words base counts e in
    let p = passed narrow n words base v in
    let total = full_count g in
    let made = made_at g base in
    let gave_after = gives-from n base words lent p l s free total (omega arith) in
    let state = state-from n base words lent p l s free total (omega arith) in
    let same : counts_of (up_to total made) ≡ counts = cc (sym (counted-made narrow n words base v) ∙ e) in
    record {
      accepted = gave_after;
      words_same = ap (λ (x : List Exchange). for_each x words_after) gave_after ∙ (each_same (given n base words lent p l) made words_after (λ m. m.written) (λ k. refl) total ∙ sym (picture-words narrow n words base v));
      totals-same = ap (λ (t : State). exchange t totals) state ∙ ap totals_gave same;
      finished-then = ap finished state ∙ eq-eqb (sum_of (counts_of (up_to total made))) total (counts-sum total made);
      unfinished-before = λ k h. ap unfinished (state-from n base words lent p l s free k (omega arith)) ∙ ap not (going_on n base words lent p l k h);
    }
