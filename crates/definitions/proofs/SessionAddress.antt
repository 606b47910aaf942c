-- A session's address, and refusals 20 to 22, over lists of calls (AddressRight of specs/Session). Assumes nothing.
use Prim.Native.Nat.{ℕ, ◌<◌}
use mathlib.Core.Path.{◌≡◌, refl, sym, ap, subst, ◌∙◌}
use mathlib.Core.Bool.{Bool, true, false, not, ◌&&◌}
use mathlib.Core.List.{List, [], ◌∷◌}
use mathlib.Core.Option.{Option, none, some}
use native.Mathlib.Omega.{arith}
use lib.IntN.{ℤ, pos}
use borrow.Author.Tests.{eq-eqb, ne_eqb, not-true}
use Rattle.definitions.specs.declared.Numbers.{Numbers}
use Rattle.definitions.specs.declared.Counts.{Counts}
use Rattle.definitions.specs.Replies.{Verdict, Accepted}
use Rattle.std.specs.Prelude.{Err as Refused}
use Rattle.definitions.specs.Replies.{MacroblockReply}
use Rattle.std.specs.Prelude.{Ok as Answered, Err as Declined}
use Rattle.definitions.specs.Basics.{pick, all_of}
use Rattle.definitions.specs.Geometry.{axes_of}
use Rattle.definitions.specs.Record.{narrow}
use Rattle.definitions.specs.Refusals.{geometry_verdict}
use Rattle.definitions.specs.Calls.{macroblock_call, no_counts, counts_of, sum_of}
use Rattle.definitions.specs.Session.{Call, begin, next, abandon, totals, State, fresh, begun, totals_of, finished, unfinished, begin_verdict, abandon_verdict, next_call, Exchange, begin_gave, next_gave, abandon_gave, totals_gave, exchange, if_accepted, advanced, state_next, exchanges, state_after, accepts, starts_anew, none_anew, geometry_if, geometry_by, geometry_since, geometry_after, made_since, made_after, AddressRight, sound}
use Rattle.definitions.specs.Raster.{full_count, column_at, row_at}
use Rattle.definitions.proofs.Choices.{yes, no, both_true}
use Rattle.definitions.proofs.Sessions.{totals-right, next-going, next-over, sound-parts, only-sound}

-- ---- the state's geometry is that of the last accepted begin, unless an accepted abandon follows it
abbrev held : State → Option Numbers
held fresh = none
held (begun n c) = some n

-- one call: an accepted begin or abandon leaves its geometry or none, any other call what was held
verdict-held : (v : Verdict) (after s : State) → held (if_accepted v after s) ≡ pick (not (accepts v)) (held s) (held after)
unfolding pick
verdict-held Accepted after s = refl
verdict-held (Refused r) after s = refl

accepted-if : (v : Verdict) (n : Numbers) (o : Option Numbers) → pick (not (accepts v)) o (some n) ≡ pick (not (accepts v)) o (geometry_if v n)
unfolding pick
accepted-if Accepted n o = refl
accepted-if (Refused r) n o = refl

call-held : (s : State) (c : Call) → held (state_next s c) ≡ pick (not (starts_anew (exchange s c))) (held s) (geometry_by (exchange s c))
unfolding exchange state_next pick
call-held s (begin n) = verdict-held (begin_verdict s n) (begun n no_counts) s ∙ accepted-if (begin_verdict s n) n (held s)
call-held fresh (next base words) = refl
call-held (begun n c) (next base words) = by (next_call (begun n c) base words).reply
  where
    by : (r : MacroblockReply) → held (advanced r (begun n c)) ≡ some n
    by (Answered a) = refl
    by (Declined r) = refl
call-held s abandon = verdict-held (abandon_verdict s) fresh s
call-held s totals = refl

-- a list of calls: with no accepted begin or abandon, what was held at its start
list_held : (s : State) (calls : List Call) → held (state_after s calls) ≡ pick (none_anew (exchanges s calls)) (held s) (geometry_since (exchanges s calls))
unfolding exchanges state_after all_of geometry_since pick
list_held s [] = refl
list_held s (c ∷ cs) =
    list_held (state_next s c) cs ∙ (ap (λ (o : Option Numbers). pick (none_anew rest) o (geometry_since rest)) (call-held s c) ∙ join (not (starts_anew (exchange s c))) (none_anew rest))
  where
    rest : List Exchange
    rest = exchanges (state_next s c) cs

    join : (h r : Bool) → pick r (pick h (held s) (geometry_by (exchange s c))) (geometry_since rest) ≡ pick (h && r) (held s) (pick r (geometry_by (exchange s c)) (geometry_since rest))
    join true true = refl
    join true false = refl
    join false true = refl
    join false false = refl

none-since : (es : List Exchange) → none_anew es ≡ true → geometry_since es ≡ none
unfolding geometry_since all_of
none-since [] e = refl
none-since (x ∷ xs) e =
    let both = both_true (not (starts_anew x)) (none_anew xs) e in
    yes _ _ both.1 ∙ none-by x (not-true (starts_anew x) both.0)
  where
    none-if : (v : Verdict) (n : Numbers) → accepts v ≡ false → geometry_if v n ≡ none
    none-if Accepted n p = cc
    none-if (Refused r) n p = refl

    none-by : (y : Exchange) → starts_anew y ≡ false → geometry_by y ≡ none
    none-by (begin_gave n v) p = none-if v n p
    none-by (next_gave base words o) p = refl
    none-by (abandon_gave v) p = refl
    none-by (totals_gave c) p = refl

held_after : (calls : List Call) → held (state_after fresh calls) ≡ geometry_after calls
held_after calls = list_held fresh calls ∙ by (none_anew (exchanges fresh calls)) refl
  where
    by : (b : Bool) → none_anew (exchanges fresh calls) ≡ b → pick b none (geometry_after calls) ≡ geometry_after calls
    by true e = yes _ _ refl ∙ sym (none-since (exchanges fresh calls) e)
    by false e = no _ _ refl

-- ---- so the state is known from the list
state-none : (s : State) → held s ≡ none → s ≡ fresh
state-none fresh e = refl
state-none (begun n c) e = absurd (let z : ◌≡◌ {A = ℕ} 0 1 = cc in omega arith)

state-some : (s : State) (n : Numbers) → held s ≡ some n → s ≡ begun n (totals_of s)
state-some fresh n e = absurd (let z : ◌≡◌ {A = ℕ} 0 1 = cc in omega arith)
state-some (begun m c) n e = let p : m ≡ n = cc in ap (λ (x : Numbers). begun x c) p

module _ (calls : List Call) where
  nothing-after : geometry_after calls ≡ none → state_after fresh calls ≡ fresh
  nothing-after e = state-none (state_after fresh calls) (held_after calls ∙ e)

  abbrev counts : Counts
  counts = counts_of (made_since calls)

  module _ (n : Numbers) (e : geometry_after calls ≡ some n) where
    begun-after : state_after fresh calls ≡ begun n counts
    unfolding exchange
    begun-after = state-some (state_after fresh calls) n (held_after calls ∙ e) ∙ ap (begun n) (cc (totals-right.counts calls))

    last-after : made_after calls ≡ full_count (axes_of n) → finished (begun n counts) ≡ true
    last-after k = eq-eqb (sum_of counts) (full_count (axes_of n)) (totals-right.sum calls ∙ k)

    unfinished-after : made_after calls < full_count (axes_of n) → finished (begun n counts) ≡ false
    unfinished-after k = ne_eqb (sum_of counts) (full_count (axes_of n)) (λ p. omega (arith, totals-right.sum calls))

    next-at : made_after calls < full_count (axes_of n) → (base words : List ℤ)
        → next_call (begun n counts) base words ≡ macroblock_call narrow n base (pos (column_at (axes_of n) (made_after calls))) (pos (row_at (axes_of n) (made_after calls))) words
    next-at k base words =
        next-going n counts base words (unfinished-after k)
        ∙ ap (λ (a : ℕ). macroblock_call narrow n base (pos (column_at (axes_of n) a)) (pos (row_at (axes_of n) a)) words) (totals-right.sum calls)

-- where no picture is unfinished, begin is judged by its geometry alone
free-begin : (s : State) (m : Numbers) → unfinished s ≡ false → begin_verdict s m ≡ geometry_verdict m
unfolding begin_verdict
free-begin s m f = no _ _ f

pub address-right : AddressRight
unfolding exchange next_call abandon_verdict begin_verdict pick
address-right = record {
  next-nothing = λ calls e base words. ap (λ (s : State). exchange s (next base words)) (nothing-after calls e);
  abandon-nothing = λ calls e. ap (λ (s : State). exchange s abandon) (nothing-after calls e);
  begin-nothing = λ calls e m. ap (λ (s : State). exchange s (begin m)) (nothing-after calls e);
  next_last = λ calls n e k base words. ap (λ (s : State). exchange s (next base words)) (begun-after calls n e) ∙ ap (next_gave base words) (next-over n (counts calls) base words (last-after calls n e k));
  abandon-last = λ calls n e k. ap (λ (s : State). exchange s abandon) (begun-after calls n e) ∙ ap abandon_gave (yes _ _ (last-after calls n e k));
  begin-last = λ calls n e k m. ap (λ (s : State). exchange s (begin m)) (begun-after calls n e) ∙ ap (begin_gave m) (free-begin (begun n (counts calls)) m (ap not (last-after calls n e k)));
  next-unfinished = λ calls n e k base words. ap (λ (s : State). exchange s (next base words)) (begun-after calls n e) ∙ ap (next_gave base words) (next-at calls n e k base words);
  abandon-unfinished = λ calls n e k. ap (λ (s : State). exchange s abandon) (begun-after calls n e) ∙ ap abandon_gave (no _ _ (unfinished-after calls n e k));
  begin-unfinished = λ calls n e k m. ap (λ (s : State). exchange s (begin m)) (begun-after calls n e) ∙ ap (begin_gave m) (yes _ _ (ap not (unfinished-after calls n e k)));
  no_more = λ calls n e. omega (arith, totals-right.sum calls, (sound-parts n (counts calls) (subst (λ (s : State). sound s ≡ true) (begun-after calls n e) (only-sound calls))).1);
}
