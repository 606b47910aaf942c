-- Session values, and the states of document 01's session that they stand for.
use Rattle.std.specs.Prelude.{◌≡◌, Bool, true, false, ◌&&◌, List, [], ◌∷◌, pos}
use Rattle.definitions.specs.declared.AxisNumbers.{AxisNumbers}
use Rattle.definitions.specs.Replies.{MacroblockReply}
use Rattle.std.specs.Prelude.{Ok as Answered, Err as Declined}
use Rattle.definitions.specs.Basics.{pick}
use Rattle.definitions.specs.Calls.{counted, no_counts, counts_of}
use Rattle.definitions.specs.Session.{Call, State, fresh, begun, totals_of, Exchange, begin_gave, next_gave, abandon_gave, totals_gave, exchange, state_by, state_next, state_after, accepts, made_since, sound}
use Rattle.session.specs.declared.Session.{Session}

-- the value of a state
abbrev pub zeros : AxisNumbers
zeros = record { base = pos 0; scaled = pos 0; offset = pos 0; full = pos 0 }

abbrev pub fresh_session : Session
fresh_session = record { begun = false; numbers = record { horizontal = zeros; vertical = zeros }; counts = no_counts }

abbrev pub value_of : State → Session
value_of fresh = fresh_session
value_of (begun n c) = record { begun = true; numbers = n; counts = c }

-- The state that a value stands for. A caller can hand over any value: one that is begun with a geometry that 1 to 4 refuse, or with more macroblocks
-- counted than there are, or that is not begun and holds anything, stands for a fresh session.
unfoldable pub state_of : Session → State
state_of v = pick (v.begun && sound (begun v.numbers v.counts)) (begun v.numbers v.counts) fresh

-- next is accepted where it answers
abbrev pub answers : MacroblockReply → Bool
answers (Answered a) = true
answers (Declined r) = false

-- The value that a call hands back: the very one where the call is refused, and of totals; else the value of the state after it.
abbrev pub changes : Exchange → Bool
changes (begin_gave n v) = accepts v
changes (next_gave base words o) = answers o.reply
changes (abandon_gave v) = accepts v
changes (totals_gave c) = false

unfoldable pub handed_by : Session → Exchange → Session
handed_by v e = pick (changes e) (value_of (state_by (state_of v) e)) v

abbrev pub handed_back : Session → Call → Session
handed_back v c = handed_by v (exchange (state_of v) c)

-- as the methods' contracts say it: the value, and that it stands for the state after the call
pub record HandsBack (v : Session) (c : Call) (w : Session) : Type 0 where
  pub value : w ≡ handed_back v c
  pub state : state_of w ≡ state_next (state_of v) c

-- The value after a list of calls.
unfoldable pub value_after : Session → List Call → Session
value_after v [] = v
value_after v (c ∷ cs) = value_after (handed_back v c) cs

-- From a fresh session no list of calls makes any value but those of states: after each it is the value of the state, and stands for it. So totals are
-- the counts of the accepted next calls since the last accepted begin or abandon.
pub record OnlyValues : Type 0 where
  pub value : (calls : List Call) → value_after fresh_session calls ≡ value_of (state_after fresh calls)
  pub state : (calls : List Call) → state_of (value_after fresh_session calls) ≡ state_after fresh calls
  pub counts : (calls : List Call) → totals_of (state_of (value_after fresh_session calls)) ≡ counts_of (made_since calls)

-- an answer counted, by value
abbrev pub advanced_by : MacroblockReply → Session → Session
advanced_by (Answered a) v = record { begun = true; numbers = v.numbers; counts = counted a v.counts }
advanced_by (Declined r) v = v
