-- The session of document 01 ("Calls"), and the refusals that come of its state ("From the state").
use Rattle.std.specs.Prelude.{ℕ, ◌<◌, ◌≤◌, ◌≡◌, Bool, true, false, not, ◌&&◌, ◌||◌, eqb, leb, ℤ, length}
use mathlib.Core.List.{List, [], ◌∷◌, ◌++◌, Memᴰ}
use Rattle.std.proofs.Math.Option.{Option, none, some}
use Rattle.definitions.specs.declared.Numbers.{Numbers}
use Rattle.definitions.specs.declared.Counts.{Counts}
use Rattle.definitions.specs.declared.Refusal.{Refusal}
use Rattle.definitions.specs.Replies.{Verdict, Accepted}
use Rattle.std.specs.Prelude.{Err as Refused}
use Rattle.definitions.specs.Replies.{MacroblockReply}
use Rattle.std.specs.Prelude.{Ok as Answered, Err as Declined}
use Rattle.std.specs.Prelude.{Ok as Counted}
use Rattle.definitions.specs.Basics.{pick, all_of, up_to, for_each}
use Rattle.definitions.specs.Geometry.{axes_of}
use Rattle.definitions.specs.Record.{record_words, narrow}
use Rattle.definitions.specs.Answer.{Made}
use Rattle.definitions.specs.Refusals.{Test, test, refusal, verdict_of, geometry_tests, geometry_verdict}
use Rattle.definitions.specs.Calls.{Outcome, by_verdict, call_at, made_at, counted, no_counts, counts_of, sum_of, picture_call}
use Rattle.definitions.specs.Raster.{full_count}

-- ---- Session, handed over and back by value
-- The calls: begin(geometry); next(base, 78 words); abandon; totals.
pub data Call : Type 0 where
  begin : Numbers → Call
  next : List ℤ → List ℤ → Call
  abandon : Call
  totals : Call

-- The state: fresh, or begun with a geometry's numbers; the counts are those of its accepted next calls.
pub data State : Type 0 where
  fresh : State
  begun : Numbers → Counts → State

abbrev pub totals_of : State → Counts
totals_of fresh = no_counts
totals_of (begun n c) = c

-- ---- From the state
abbrev pub nothing_begun : State → Bool
nothing_begun fresh = true
nothing_begun (begun n c) = false

-- the last macroblock is made. (With nothing begun it is never read: nothing_begun comes first.)
abbrev pub finished : State → Bool
finished fresh = false
finished (begun n c) = eqb (sum_of c) (full_count (axes_of n))

-- a picture is unfinished: begun, and its last macroblock is not made
abbrev pub unfinished : State → Bool
unfinished s = not (nothing_begun s || finished s)

-- 20: next or abandon with nothing begun. 21: next or abandon after the last macroblock.
abbrev pub onward_tests : State → List Test
onward_tests s = test (nothing_begun s) (refusal 20) ∷ test (finished s) (refusal 21) ∷ []

-- 22: begin while a picture is unfinished.
abbrev pub begin_tests : State → List Test
begin_tests s = test (unfinished s) (refusal 22) ∷ []

-- ---- What each call gives; 20 to 22 precede 1 to 8
-- Begin can be refused by 1 to 4.
unfoldable pub begin_verdict : State → Numbers → Verdict
begin_verdict s n = verdict_of (begin_tests s ++ geometry_tests n)

unfoldable pub abandon_verdict : State → Verdict
abandon_verdict s = verdict_of (onward_tests s)

-- the one-macroblock call for the next address, which is the number of macroblocks made. (With nothing begun it is never read: 20 comes first.)
abbrev pub call_at_next : State → List ℤ → List ℤ → Outcome MacroblockReply
call_at_next fresh base words = record { reply = Declined (refusal 20); words = words }
call_at_next (begun n c) base words = call_at narrow n base (sum_of c) words

-- Next answers as the one-macroblock call does for the next address in raster order, refusals 5, 6 and 8 included.
unfoldable pub next_call : State → List ℤ → List ℤ → Outcome MacroblockReply
next_call s base words = by_verdict (verdict_of (onward_tests s)) Declined words (call_at_next s base words)

-- ---- One call
-- a call with what it gave: its verdict; the reply, and the lent words afterwards; the counts
pub data Exchange : Type 0 where
  begin_gave : Numbers → Verdict → Exchange
  next_gave : List ℤ → List ℤ → Outcome MacroblockReply → Exchange
  abandon_gave : Verdict → Exchange
  totals_gave : Counts → Exchange

unfoldable pub exchange : State → Call → Exchange
exchange s (begin n) = begin_gave n (begin_verdict s n)
exchange s (next base words) = next_gave base words (next_call s base words)
exchange s abandon = abandon_gave (abandon_verdict s)
exchange s totals = totals_gave (totals_of s)

-- The state after a call. A refused call changes no state.
abbrev pub if_accepted : Verdict → State → State → State
if_accepted Accepted after s = after
if_accepted (Refused r) after s = s

abbrev pub advanced : MacroblockReply → State → State
advanced reply fresh = fresh
advanced (Answered a) (begun n c) = begun n (counted a c)
advanced (Declined r) (begun n c) = begun n c

abbrev pub state_by : State → Exchange → State
state_by s (begin_gave n v) = if_accepted v (begun n no_counts) s
state_by s (next_gave base words o) = advanced o.reply s
state_by s (abandon_gave v) = if_accepted v fresh s
state_by s (totals_gave c) = s

unfoldable pub state_next : State → Call → State
state_next s c = state_by s (exchange s c)

-- ---- Lists of calls, from a state on: what they gave, in their order, and the state after them
unfoldable pub exchanges : State → List Call → List Exchange
exchanges s [] = []
exchanges s (c ∷ cs) = exchange s c ∷ exchanges (state_next s c) cs

unfoldable pub state_after : State → List Call → State
state_after s [] = s
state_after s (c ∷ cs) = state_after (state_next s c) cs

-- an accepted begin or abandon
abbrev pub accepts : Verdict → Bool
accepts Accepted = true
accepts (Refused r) = false

abbrev pub starts_anew : Exchange → Bool
starts_anew (begin_gave n v) = accepts v
starts_anew (next_gave base words o) = false
starts_anew (abandon_gave v) = accepts v
starts_anew (totals_gave c) = false

abbrev pub none_anew : List Exchange → Bool
none_anew es = all_of (λ x. not (starts_anew x)) es

-- what follows the last accepted begin or abandon (all, where there is none)
unfoldable pub since : List Exchange → List Exchange
since [] = []
since (e ∷ es) = pick (none_anew es) (pick (starts_anew e) es (e ∷ es)) (since es)

-- the geometry of the last accepted begin, unless an accepted abandon follows it (none, where nothing is begun)
abbrev pub geometry_if : Verdict → Numbers → Option Numbers
geometry_if Accepted n = some n
geometry_if (Refused r) n = none

abbrev pub geometry_by : Exchange → Option Numbers
geometry_by (begin_gave n v) = geometry_if v n
geometry_by (next_gave base words o) = none
geometry_by (abandon_gave v) = none
geometry_by (totals_gave c) = none

unfoldable pub geometry_since : List Exchange → Option Numbers
geometry_since [] = none
geometry_since (e ∷ es) = pick (none_anew es) (geometry_by e) (geometry_since es)

-- what accepted next calls made: answers, each with its words
abbrev pub answered_with : MacroblockReply → List ℤ → List Made
answered_with (Answered a) words = record { answer = a; written = words } ∷ []
answered_with (Declined r) words = []

abbrev pub made_in : Exchange → List Made
made_in (begin_gave n v) = []
made_in (next_gave base words o) = answered_with o.reply o.words
made_in (abandon_gave v) = []
made_in (totals_gave c) = []

-- the accepted next calls since the last accepted begin or abandon, after a list of calls from a fresh session
abbrev pub made_since : List Call → List Made
made_since calls = for_each (since (exchanges fresh calls)) made_in

-- For every list of these calls from a fresh one, totals are the counts of accepted next calls of each sort since the last accepted begin or
-- abandon, and their sum is their number.
pub record TotalsRight : Type 0 where
  pub counts : (calls : List Call) → exchange (state_after fresh calls) totals ≡ totals_gave (counts_of (made_since calls))
  pub sum : (calls : List Call) → sum_of (counts_of (made_since calls)) ≡ length (made_since calls)

-- After a list of calls from a fresh session: the geometry begun, the number of macroblocks made, and what one call more gives
abbrev pub geometry_after : List Call → Option Numbers
geometry_after calls = geometry_since (exchanges fresh calls)

abbrev pub made_after : List Call → ℕ
made_after calls = length (made_since calls)

abbrev pub gave_after : List Call → Call → Exchange
gave_after calls c = exchange (state_after fresh calls) c

-- next refused, its words as they were
abbrev pub next_refused : List ℤ → List ℤ → Refusal → Exchange
next_refused base words r = next_gave base words (record { reply = Declined r; words = words })

-- For every list of these calls from a fresh one:
pub record AddressRight : Type 0 where
  -- nothing begun: next and abandon are refused by 20, and begin by 1 to 4 only
  pub next-nothing : (calls : List Call) → geometry_after calls ≡ none → (base words : List ℤ) → gave_after calls (next base words) ≡ next_refused base words (refusal 20)
  pub abandon-nothing : (calls : List Call) → geometry_after calls ≡ none → gave_after calls abandon ≡ abandon_gave (Refused (refusal 20))
  pub begin-nothing : (calls : List Call) → geometry_after calls ≡ none → (m : Numbers) → gave_after calls (begin m) ≡ begin_gave m (geometry_verdict m)
  -- after the last macroblock: next and abandon are refused by 21, and begin by 1 to 4 only
  pub next_last : (calls : List Call) (n : Numbers) → geometry_after calls ≡ some n → made_after calls ≡ full_count (axes_of n)
      → (base words : List ℤ) → gave_after calls (next base words) ≡ next_refused base words (refusal 21)
  pub abandon-last : (calls : List Call) (n : Numbers) → geometry_after calls ≡ some n → made_after calls ≡ full_count (axes_of n)
      → gave_after calls abandon ≡ abandon_gave (Refused (refusal 21))
  pub begin-last : (calls : List Call) (n : Numbers) → geometry_after calls ≡ some n → made_after calls ≡ full_count (axes_of n)
      → (m : Numbers) → gave_after calls (begin m) ≡ begin_gave m (geometry_verdict m)
  -- unfinished: next is the one-macroblock call for the next address in raster order, abandon is accepted, and begin refused by 22
  pub next-unfinished : (calls : List Call) (n : Numbers) → geometry_after calls ≡ some n → made_after calls < full_count (axes_of n)
      → (base words : List ℤ)
      → gave_after calls (next base words)
      ≡ next_gave base words (call_at narrow n base (made_after calls) words)
  pub abandon-unfinished : (calls : List Call) (n : Numbers) → geometry_after calls ≡ some n → made_after calls < full_count (axes_of n)
      → gave_after calls abandon ≡ abandon_gave Accepted
  pub begin-unfinished : (calls : List Call) (n : Numbers) → geometry_after calls ≡ some n → made_after calls < full_count (axes_of n)
      → (m : Numbers) → gave_after calls (begin m) ≡ begin_gave m (Refused (refusal 22))
  -- there is no other case
  pub no_more : (calls : List Call) (n : Numbers) → geometry_after calls ≡ some n → made_after calls ≤ full_count (axes_of n)

-- ---- A whole picture: begin, and a next call for each macroblock on one base; lent a are the words lent to the one of address a
abbrev pub picture_calls : Numbers → List ℤ → (ℕ → List ℤ) → List Call
picture_calls n base lent = begin n ∷ up_to (full_count (axes_of n)) (λ a. next base (lent a))

-- a next call accepted, with what is made: the answer, and the words lent afterwards
abbrev pub next_made : List ℤ → List ℤ → Made → Exchange
next_made base words m = next_gave base words (record { reply = Answered m.answer; words = m.written })

-- the words lent, afterwards
abbrev pub words_after : Exchange → List ℤ
words_after (begin_gave n v) = []
words_after (next_gave base words o) = o.words
words_after (abandon_gave v) = []
words_after (totals_gave c) = []

-- Where the picture call accepts the base, and the session takes a begin, these calls do what it does: each is accepted, next with the answer and
-- the words of the macroblock at its address, the words lent one after another are those that it writes, the totals are its counts, and the session is
-- finished after the last of them and not before.
pub record AsPicture (s : State) (n : Numbers) (base words : List ℤ) (counts : Counts) (lent : ℕ → List ℤ) : Type 0 where
  pub accepted : exchanges s (picture_calls n base lent) ≡ begin_gave n Accepted ∷ up_to (full_count (axes_of n)) (λ a. next_made base (lent a) (made_at (axes_of n) base a))
  pub words_same : for_each (exchanges s (picture_calls n base lent)) words_after ≡ (picture_call narrow n base words).words
  pub totals-same : exchange (state_after s (picture_calls n base lent)) totals ≡ totals_gave counts
  pub finished-then : finished (state_after s (picture_calls n base lent)) ≡ true
  pub unfinished-before : (k : ℕ) → k < full_count (axes_of n) → unfinished (state_after s (begin n ∷ up_to k (λ a. next base (lent a)))) ≡ true

abbrev pub PictureBySession : Type 0
PictureBySession =
    (s : State) (n : Numbers) (base words : List ℤ) (counts : Counts) (lent : ℕ → List ℤ)
    → unfinished s ≡ false
    → (picture_call narrow n base words).reply ≡ Counted counts
    → ((a : ℕ) → a < full_count (axes_of n) → length (lent a) ≡ record_words)
    → AsPicture s n base words counts lent

-- ---- The states that lists of calls make: the geometry is accepted, and no more macroblocks are made than there are
abbrev pub sound : State → Bool
sound fresh = true
sound (begun n c) = accepts (geometry_verdict n) && leb (sum_of c) (full_count (axes_of n))

abbrev pub OnlySound : Type 0
OnlySound = (calls : List Call) → sound (state_after fresh calls) ≡ true

-- so next is refused by 20 and 21, and of the one-macroblock call's refusals by 5, 6 and 8 only
abbrev pub refuses_next : List ℕ
refuses_next = 20 ∷ 21 ∷ 5 ∷ 6 ∷ 8 ∷ []

abbrev pub NextRefusals : Type 0
NextRefusals =
    (calls : List Call) (base words : List ℤ) (r : Refusal) → (next_call (state_after fresh calls) base words).reply ≡ Declined r → Memᴰ r.number refuses_next
