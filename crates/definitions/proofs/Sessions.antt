-- Sessions over lists of calls: totals are right, and every state is sound (specs/Session). Assumes nothing.
use Prim.Native.Nat.{ℕ, ◌≤◌}
use mathlib.Core.Path.{◌≡◌, refl, sym, ap, ◌∙◌}
use mathlib.Core.Bool.{Bool, true, false, not}
use mathlib.Core.List.{List, [], ◌∷◌, ◌++◌, append-nil, append_assoc}
use native.Mathlib.Omega.{arith}
use lib.IntN.{ℤ}
use lib.Dec.{leb}
use borrow.Author.Tests.{eqb-false, not-true, leb-true, le-leb}
use Rattle.definitions.specs.declared.Numbers.{Numbers}
use Rattle.definitions.specs.declared.Answer.{Answer}
use Rattle.definitions.specs.declared.Counts.{Counts}
use Rattle.definitions.specs.Replies.{Verdict, Accepted}
use Rattle.std.specs.Prelude.{Err as Refused}
use Rattle.definitions.specs.Replies.{MacroblockReply}
use Rattle.std.specs.Prelude.{Ok as Answered, Err as Declined}
use Rattle.definitions.specs.Basics.{pick, all_of, for_each}
use Rattle.definitions.specs.Geometry.{axes_of}
use Rattle.definitions.specs.Answer.{Made}
use Rattle.definitions.specs.Refusals.{refusal, verdict_of, geometry_tests, geometry_verdict}
use Rattle.definitions.specs.Calls.{Outcome, by_verdict, counted, no_counts, counts_of, sum_of}
use Rattle.definitions.specs.Session.{Call, begin, next, abandon, totals, State, fresh, begun, totals_of, finished, onward_tests, begin_tests, begin_verdict, abandon_verdict, call_at_next, next_call, Exchange, totals_gave, exchange, if_accepted, advanced, state_next, exchanges, state_after, accepts, starts_anew, none_anew, since, answered_with, made_in, made_since, TotalsRight, sound, OnlySound}
use Rattle.definitions.specs.Raster.{full_count}
use Rattle.definitions.proofs.Choices.{yes, no, both_true, and_intro, and_no}
use Rattle.definitions.proofs.Verdicts.{both-passed}
use Rattle.definitions.proofs.Counting.{counted-last, counted-sum, counts-length}

-- ---- totals
-- an accepted begin or abandon begins the totals anew
accepted-anew : (v : Verdict) (after s : State) → totals_of after ≡ no_counts → accepts v ≡ true → totals_of (if_accepted v after s) ≡ no_counts
accepted-anew Accepted after s z e = z
accepted-anew (Refused r) after s z e = cc

anew : (s : State) (c : Call) → starts_anew (exchange s c) ≡ true → totals_of (state_next s c) ≡ no_counts
unfolding exchange state_next
anew s (begin n) e = accepted-anew (begin_verdict s n) (begun n no_counts) s refl e
anew s (next base words) e = cc
anew s abandon e = accepted-anew (abandon_verdict s) fresh s refl e
anew s totals e = cc

-- with nothing begun, next makes nothing
next-fresh : (base words : List ℤ) → answered_with (next_call fresh base words).reply (next_call fresh base words).words ≡ []
unfolding next_call pick
next-fresh base words = refl

-- any other call adds what it made
nothing-added : {c : Counts} (known : List Made) → c ≡ counts_of known → c ≡ counts_of (known ++ [])
nothing-added known k = k ∙ ap counts_of (sym (append-nil known))

refused-added : (v : Verdict) (after s : State) (known : List Made) → accepts v ≡ false → totals_of s ≡ counts_of known → totals_of (if_accepted v after s) ≡ counts_of (known ++ [])
refused-added Accepted after s known e k = cc
refused-added (Refused r) after s known e k = nothing-added known k

added : (s : State) (c : Call) (known : List Made) → starts_anew (exchange s c) ≡ false → totals_of s ≡ counts_of known → totals_of (state_next s c) ≡ counts_of (known ++ made_in (exchange s c))
unfolding exchange state_next
added s (begin n) known e k = refused-added (begin_verdict s n) (begun n no_counts) s known e k
added fresh (next base words) known e k = nothing-added known k ∙ ap (λ (l : List Made). counts_of (known ++ l)) (sym (next-fresh base words))
added (begun n c) (next base words) known e k = by (next_call (begun n c) base words).reply
  where
    by : (r : MacroblockReply) → totals_of (advanced r (begun n c)) ≡ counts_of (known ++ answered_with r (next_call (begun n c) base words).words)
    by (Answered a) = ap (counted a) k ∙ sym (counted-last known (record { answer = a; written = (next_call (begun n c) base words).words }))
    by (Declined r) = nothing-added known k
added s abandon known e k = refused-added (abandon_verdict s) fresh s known e k
added s totals known e k = nothing-added known k

-- with no accepted begin or abandon, what is known of the totals at the start goes on
kept : (s : State) (calls : List Call) (known : List Made) → none_anew (exchanges s calls) ≡ true → totals_of s ≡ counts_of known → totals_of (state_after s calls) ≡ counts_of (known ++ for_each (exchanges s calls) made_in)
unfolding exchanges state_after all_of
kept s [] known e k = nothing-added known k
kept s (c ∷ cs) known e k =
    let both = both_true (not (starts_anew (exchange s c))) (none_anew (exchanges (state_next s c) cs)) e in
    kept (state_next s c) cs (known ++ made_in (exchange s c)) both.1 (added s c known (not-true (starts_anew (exchange s c)) both.0) k)
    ∙ ap counts_of (append_assoc known (made_in (exchange s c)) (for_each (exchanges (state_next s c) cs) made_in))

-- with one, they are counted from the last on
last : (s : State) (calls : List Call) → none_anew (exchanges s calls) ≡ false → totals_of (state_after s calls) ≡ counts_of (for_each (since (exchanges s calls)) made_in)
unfolding exchanges state_after all_of since counts_of
last s [] e = cc
last s (c ∷ cs) e = by (λ p. last (state_next s c) cs p) (none_anew (exchanges (state_next s c) cs)) (starts_anew (exchange s c)) refl refl
  where
    rest : List Exchange
    rest = exchanges (state_next s c) cs

    by : (none_anew rest ≡ false → totals_of (state_after (state_next s c) cs) ≡ counts_of (for_each (since rest) made_in)) → (later here : Bool) → none_anew rest ≡ later → starts_anew (exchange s c) ≡ here → totals_of (state_after (state_next s c) cs) ≡ counts_of (for_each (pick (none_anew rest) (pick (starts_anew (exchange s c)) rest (exchange s c ∷ rest)) (since rest)) made_in)
    by go false here p q = go p ∙ ap (λ (l : List Exchange). counts_of (for_each l made_in)) (sym (no _ _ p))
    by go true true p q =
        kept (state_next s c) cs [] p (anew s c q) ∙ ap (λ (l : List Exchange). counts_of (for_each l made_in)) (sym (yes _ _ p ∙ yes _ _ q))
    by go true false p q = cc (and_intro {a = not (starts_anew (exchange s c))} {b = none_anew rest} (ap not q) p)

-- where there is none, since is all
since-all : (es : List Exchange) → none_anew es ≡ true → since es ≡ es
unfolding since all_of
since-all [] e = refl
since-all (x ∷ xs) e =
    let both = both_true (not (starts_anew x)) (none_anew xs) e in
    yes _ _ both.1 ∙ no _ _ (not-true (starts_anew x) both.0)

-- and from the last one on, what follows it
pub since-last : (before after : List Exchange) (e : Exchange) → starts_anew e ≡ true → none_anew after ≡ true → since (before ++ (e ∷ after)) ≡ after
unfolding since all_of
since-last [] after e s n = yes _ _ n ∙ yes _ _ s
since-last (x ∷ before) after e s n = no _ _ (some before) ∙ since-last before after e s n
  where
    some : (xs : List Exchange) → none_anew (xs ++ (e ∷ after)) ≡ false
    some [] = rw s
    some (y ∷ ys) = and_no (not (starts_anew y)) (some ys)

pub totals-right : TotalsRight
unfolding exchange counts_of
totals-right = record {
  counts = λ calls. ap totals_gave (by calls (none_anew (exchanges fresh calls)) refl);
  sum = λ calls. counts-length (made_since calls);
}
  where
    by : (calls : List Call) (b : Bool) → none_anew (exchanges fresh calls) ≡ b → totals_of (state_after fresh calls) ≡ counts_of (made_since calls)
    by calls true e = kept fresh calls [] e refl ∙ ap (λ (l : List Exchange). counts_of (for_each l made_in)) (sym (since-all (exchanges fresh calls) e))
    by calls false e = last fresh calls e

-- ---- soundness
accepted-true : (v : Verdict) → accepts v ≡ true → v ≡ Accepted
accepted-true Accepted e = refl
accepted-true (Refused r) e = cc

pub sound-parts : (n : Numbers) (c : Counts) → sound (begun n c) ≡ true → (geometry_verdict n ≡ Accepted) × (sum_of c ≤ full_count (axes_of n))
sound-parts n c e =
    let both = both_true (accepts (geometry_verdict n)) (leb (sum_of c) (full_count (axes_of n))) e in
    (accepted-true (geometry_verdict n) both.0, leb-true (sum_of c) (full_count (axes_of n)) both.1)

sound-from : (n : Numbers) (c : Counts) → geometry_verdict n ≡ Accepted → sum_of c ≤ full_count (axes_of n) → sound (begun n c) ≡ true
sound-from n c v h =
    and_intro {a = accepts (geometry_verdict n)} {b = leb (sum_of c) (full_count (axes_of n))} (ap accepts v) (le-leb (sum_of c) (full_count (axes_of n)) h)

module _ (n : Numbers) (c : Counts) (base words : List ℤ) where
  abbrev calls : Outcome MacroblockReply
  calls = call_at_next (begun n c) base words

  by_tests : (v : Verdict) → verdict_of (onward_tests (begun n c)) ≡ v → next_call (begun n c) base words ≡ by_verdict v Declined words calls
  unfolding next_call
  by_tests v e = ap (λ (w : Verdict). by_verdict w Declined words calls) e

  pub next-going : finished (begun n c) ≡ false → next_call (begun n c) base words ≡ calls
  next-going e = by_tests Accepted (no {t = false} _ _ refl ∙ no _ _ e)

  pub next-over : finished (begun n c) ≡ true → next_call (begun n c) base words ≡ record { reply = Declined (refusal 21); words = words }
  next-over e = by_tests (Refused (refusal 21)) (no {t = false} _ _ refl ∙ yes _ _ e)

  -- a next call that is answered is not after the last macroblock
  next-room : (a : Answer) → (next_call (begun n c) base words).reply ≡ Answered a → finished (begun n c) ≡ false
  next-room a e = by (finished (begun n c)) refl
    where
      by : (b : Bool) → finished (begun n c) ≡ b → b ≡ false
      by true p = absurd (let q = ap (λ (o : Outcome MacroblockReply). o.reply) (next-over p) in let z : ◌≡◌ {A = ℕ} 0 1 = cc in omega arith)
      by false p = refl

  sound-advanced : (reply : MacroblockReply) → (next_call (begun n c) base words).reply ≡ reply → sound (begun n c) ≡ true → sound (advanced reply (begun n c)) ≡ true
  sound-advanced (Answered a) e s =
      let h = sound-parts n c s in
      let other = eqb-false (sum_of c) (full_count (axes_of n)) (next-room a e) in
      sound-from n (counted a c) h.0 (omega (arith, counted-sum a c, h.1))
  sound-advanced (Declined r) e s = s

pub sound-next : (s : State) (c : Call) → sound s ≡ true → sound (state_next s c) ≡ true
unfolding exchange state_next begin_verdict
sound-next s (begin n) h = by (begin_verdict s n) refl
  where
    by : (v : Verdict) → begin_verdict s n ≡ v → sound (if_accepted v (begun n no_counts) s) ≡ true
    by Accepted e = sound-from n no_counts (both-passed (begin_tests s) (geometry_tests n) e).1 (omega arith)
    by (Refused r) e = h
sound-next fresh (next base words) h = refl
sound-next (begun n c) (next base words) h = sound-advanced n c base words (next_call (begun n c) base words).reply refl h
sound-next s abandon h = by (abandon_verdict s)
  where
    by : (v : Verdict) → sound (if_accepted v fresh s) ≡ true
    by Accepted = refl
    by (Refused r) = h
sound-next s totals h = h

sound-after : (s : State) (calls : List Call) → sound s ≡ true → sound (state_after s calls) ≡ true
unfolding state_after
sound-after s [] h = h
sound-after s (c ∷ cs) h = sound-after (state_next s c) cs (sound-next s c h)

pub only-sound : OnlySound
only-sound calls = sound-after fresh calls refl
