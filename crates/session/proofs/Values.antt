-- Session values and the states that they stand for (specs/Values); no list of calls makes a value that is none of a state's. Assumes nothing.
use mathlib.Core.Path.{◌≡◌, refl, sym, ap, ◌∙◌}
use mathlib.Core.Bool.{true, false, ◌&&◌}
use mathlib.Core.List.{List, [], ◌∷◌}
use Rattle.definitions.specs.Replies.{Verdict, Accepted}
use Rattle.std.specs.Prelude.{Err as Refused}
use Rattle.definitions.specs.Replies.{MacroblockReply}
use Rattle.std.specs.Prelude.{Ok as Answered, Err as Declined}
use Rattle.definitions.specs.Basics.{pick}
use Rattle.definitions.specs.Calls.{no_counts}
use Rattle.definitions.specs.Session.{Call, State, fresh, begun, totals_of, Exchange, begin_gave, next_gave, abandon_gave, totals_gave, exchange, if_accepted, advanced, state_by, state_next, state_after, accepts, sound}
use Rattle.definitions.proofs.Choices.{yes, no, pick-cases, both_true}
use Rattle.definitions.proofs.Sessions.{totals-right, sound-next, only-sound}
use Rattle.session.specs.declared.Session.{Session}
use Rattle.session.specs.Values.{fresh_session, value_of, state_of, answers, changes, handed_by, handed_back, HandsBack, value_after, OnlyValues}

-- a value stands for a sound state, and the value of a sound state for that state
pub state-sound : (v : Session) → sound (state_of v) ≡ true
unfolding state_of
state-sound v =
    let held = sound (begun v.numbers v.counts) in
    pick-cases (λ s. sound s ≡ true) (v.begun && held) (begun v.numbers v.counts) fresh (λ e. (both_true v.begun held e).1) (λ e. refl)

pub state-of-value : (s : State) → sound s ≡ true → state_of (value_of s) ≡ s
unfolding state_of
state-of-value fresh h = no {t = false} _ _ refl
state-of-value (begun n c) h = yes _ _ h

not-accepted : (v : Verdict) (after s : State) → accepts v ≡ false → if_accepted v after s ≡ s
not-accepted Accepted after s e = cc
not-accepted (Refused r) after s e = refl

-- what changes nothing leaves the state
unchanged : (s : State) (e : Exchange) → changes e ≡ false → state_by s e ≡ s
unchanged s (begin_gave n v) = not-accepted v (begun n no_counts) s
unchanged fresh (next_gave base words o) = λ p. refl
unchanged (begun n c) (next_gave base words o) = by o.reply
  where
    by : (r : MacroblockReply) → answers r ≡ false → advanced r (begun n c) ≡ begun n c
    by (Answered a) p = cc
    by (Declined r) p = refl
unchanged s (abandon_gave v) = not-accepted v fresh s
unchanged s (totals_gave c) = λ p. refl

-- the value handed back stands for the state after the call
handed-state : (v : Session) (c : Call) → state_of (handed_back v c) ≡ state_next (state_of v) c
unfolding handed_by state_next
handed-state v c =
    pick-cases (λ w. state_of w ≡ state_next (state_of v) c) (changes (exchange (state_of v) c)) (value_of (state_next (state_of v) c)) v
    (λ e. state-of-value (state_next (state_of v) c) (sound-next (state_of v) c (state-sound v)))
    (λ e. sym (unchanged (state_of v) (exchange (state_of v) c) e))

pub hands-back : (v : Session) (c : Call) (w : Session) → w ≡ handed_back v c → HandsBack v c w
hands-back v c w e = record { value = e; state = ap state_of e ∙ handed-state v c }

-- ---- lists of calls
pub handed-value : (s : State) (c : Call) → sound s ≡ true → handed_back (value_of s) c ≡ value_of (state_next s c)
unfolding handed_by state_next
handed-value s c h =
    ap (λ (t : State). pick (changes (exchange t c)) (value_of (state_by t (exchange t c))) (value_of s)) (state-of-value s h)
    ∙ pick-cases (λ w. w ≡ value_of (state_next s c)) (changes (exchange s c)) (value_of (state_next s c)) (value_of s) (λ e. refl) (λ e. ap value_of (sym (unchanged s (exchange s c) e)))

values-after : (s : State) (calls : List Call) → sound s ≡ true → value_after (value_of s) calls ≡ value_of (state_after s calls)
unfolding value_after state_after
values-after s [] h = refl
values-after s (c ∷ cs) h = ap (λ (v : Session). value_after v cs) (handed-value s c h) ∙ values-after (state_next s c) cs (sound-next s c h)

stands_after : (calls : List Call) → state_of (value_after fresh_session calls) ≡ state_after fresh calls
stands_after calls = ap state_of (values-after fresh calls refl) ∙ state-of-value (state_after fresh calls) (only-sound calls)

pub only-values : OnlyValues
unfolding exchange
only-values = record {
  value = λ calls. values-after fresh calls refl;
  state = stands_after;
  counts = λ calls. ap totals_of (stands_after calls) ∙ cc (totals-right.counts calls);
}
