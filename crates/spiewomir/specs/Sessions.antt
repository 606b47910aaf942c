-- The session as the C interface hands it over and back. A refused call, and totals, hand back the very numbers.
use Rattle.std.specs.Prelude.{ℕ, Bool, true, false, List, eqb, ℤ}
use Rattle.definitions.specs.declared.Numbers.{Numbers}
use Rattle.definitions.specs.declared.Counts.{Counts}
use Rattle.definitions.specs.Replies.{Verdict, Accepted}
use Rattle.std.specs.Prelude.{Err as Refused}
use Rattle.definitions.specs.Replies.{MacroblockReply}
use Rattle.std.specs.Prelude.{Ok as Answered, Err as Declined}
use Rattle.definitions.specs.Session.{abandon, abandon_verdict, begin, begin_verdict, next, next_call, totals_of}
use Rattle.session.specs.declared.Session.{Session}
use Rattle.session.specs.Values.{handed_back, state_of}
use Rattle.spiewomir.specs.declared.GeometryNumbers.{GeometryNumbers}
use Rattle.spiewomir.specs.declared.SessionNumbers.{SessionNumbers}
use Rattle.spiewomir.specs.declared.JudgedResult.{JudgedResult}
use Rattle.spiewomir.specs.declared.AdvancedResult.{AdvancedResult}
use Rattle.spiewomir.specs.declared.TotalsResult.{TotalsResult}
use Rattle.spiewomir.specs.Results.{numbers_from_c, macroblock_result}

-- the session that numbers stand for: begun is 1, and any other number is nothing begun
abbrev pub session_from_c : SessionNumbers → Session
session_from_c s = record {
  begun = eqb s.begun 1;
  numbers = numbers_from_c s.geometry;
  counts = record { inherited = s.inherited; intra = s.intra; outside = s.outside };
}

-- and the numbers of a session
abbrev pub flag : Bool → ℕ
flag true = 1
flag false = 0

abbrev pub numbers_to_c : Numbers → GeometryNumbers
numbers_to_c n = record {
  bw = n.horizontal.base;
  bh = n.vertical.base;
  sw = n.horizontal.scaled;
  sh = n.vertical.scaled;
  x = n.horizontal.offset;
  y = n.vertical.offset;
  fw = n.horizontal.full;
  fh = n.vertical.full;
}

abbrev pub session_to_c : Session → SessionNumbers
session_to_c v = record { begun = flag v.begun; geometry = numbers_to_c v.numbers; inherited = v.counts.inherited; intra = v.counts.intra; outside = v.counts.outside }

-- begin and abandon, by the verdict and the session after it
abbrev pub judged_result : SessionNumbers → Verdict → Session → JudgedResult
judged_result s Accepted v = record { session = session_to_c v; refusal = 0; place = 0; rule = 0 }
judged_result s (Refused r) v = record { session = s; refusal = r.number; place = r.place; rule = r.rule }

-- next, by the reply and the session after it
abbrev pub session_after : SessionNumbers → MacroblockReply → Session → SessionNumbers
session_after s (Answered a) v = session_to_c v
session_after s (Declined r) v = s

abbrev pub advanced_result : SessionNumbers → MacroblockReply → Session → AdvancedResult
advanced_result s reply v = record { session = session_after s reply v; macroblock = macroblock_result reply }

abbrev pub totals_result : SessionNumbers → Counts → TotalsResult
totals_result s c = record { session = s; inherited = c.inherited; intra = c.intra; outside = c.outside }

-- what the functions give, by the session's calls on the state that the numbers stand for
abbrev pub begin_gives : SessionNumbers → GeometryNumbers → JudgedResult
begin_gives s g = judged_result s (begin_verdict (state_of (session_from_c s)) (numbers_from_c g)) (handed_back (session_from_c s) (begin (numbers_from_c g)))

abbrev pub next_gives : SessionNumbers → List ℤ → List ℤ → AdvancedResult
next_gives s base words = advanced_result s (next_call (state_of (session_from_c s)) base words).reply (handed_back (session_from_c s) (next base words))

abbrev pub abandon_gives : SessionNumbers → JudgedResult
abandon_gives s = judged_result s (abandon_verdict (state_of (session_from_c s))) (handed_back (session_from_c s) abandon)

abbrev pub totals_gives : SessionNumbers → TotalsResult
totals_gives s = totals_result s (totals_of (state_of (session_from_c s)))
