-- What holds of the definitions of the C interface: numbers there and back, a number for each class, refusal 0, the log's line, and the session over every list
-- of calls.
use Rattle.std.specs.Prelude.{ℕ, ◌≤◌, ◌≡◌, ◌↔◌, ◌⊎◌, true, List, [], ◌∷◌, ℤ, length}
use Rattle.definitions.specs.declared.Numbers.{Numbers}
use Rattle.definitions.specs.declared.Class.{Class}
use Rattle.definitions.specs.declared.Answer.{Answer}
use Rattle.definitions.specs.declared.Counts.{Counts}
use Rattle.definitions.specs.declared.Refusal.{Refusal}
use Rattle.definitions.specs.Replies.{Accepted}
use Rattle.std.specs.Prelude.{Err as Refused}
use Rattle.std.specs.Prelude.{Ok as Answered}
use Rattle.std.specs.Prelude.{Ok as Counted}
use Rattle.definitions.specs.declared.TextRead.{TextRead}
use Rattle.definitions.specs.Replies.{TextReply, NoPicture, Read}
use Rattle.definitions.specs.declared.Logged.{Logged}
use Rattle.definitions.specs.Replies.{LogReply}
use Rattle.std.specs.Prelude.{Ok as Written}
use Rattle.definitions.specs.Calls.{macroblock_call, picture_call, counts_of, sum_of}
use Rattle.definitions.specs.Session.{Call, begin, next, abandon, totals, State, fresh, Exchange, begin_gave, next_gave, abandon_gave, totals_gave, begin_verdict, abandon_verdict, next_call, exchange, state_next, state_after, made_since}
use Rattle.definitions.specs.Text.{TextAnswer}
use Rattle.definitions.specs.Log.{line_of, refused_word, LogAnswer, SaidByLog}
use Rattle.session.specs.declared.Session.{Session}
use Rattle.session.specs.Values.{fresh_session, value_of, state_of}
use Rattle.spiewomir.specs.declared.GeometryNumbers.{GeometryNumbers}
use Rattle.spiewomir.specs.declared.SessionNumbers.{SessionNumbers}
use Rattle.spiewomir.specs.declared.JudgedResult.{JudgedResult}
use Rattle.spiewomir.specs.declared.AdvancedResult.{AdvancedResult}
use Rattle.spiewomir.specs.declared.TotalsResult.{TotalsResult}
use Rattle.spiewomir.specs.Results.{numbers_from_c, class_number, macroblock_result, picture_result}
use Rattle.spiewomir.specs.Sessions.{numbers_to_c, session_from_c, session_to_c, judged_result, advanced_result, totals_result, begin_gives, next_gives, abandon_gives, totals_gives}
use Rattle.spiewomir.specs.Texts.{text_result, log_result}

-- ---- There and back
-- Geometries, both ways; sessions; and a session's numbers where begun is 0 or 1 (any number but 1 is nothing begun).
pub record ThereAndBack : Type 0 where
  pub numbers : (n : Numbers) → numbers_from_c (numbers_to_c n) ≡ n
  pub geometry : (g : GeometryNumbers) → numbers_to_c (numbers_from_c g) ≡ g
  pub session : (v : Session) → session_from_c (session_to_c v) ≡ v
  pub session-numbers : (s : SessionNumbers) → s.begun ≤ 1 → session_to_c (session_from_c s) ≡ s

-- Each class has a number of its own.
abbrev pub ClassesDiffer : Type 0
ClassesDiffer = (c d : Class) → class_number c ≡ class_number d → c ≡ d

-- ---- Refusal 0 exactly where a call is answered (of the log call: where a log is written; and its text 0 exactly where the text is accepted). Of the calls on records at every limit, and so for both widths
pub record ZeroWhenAnswered : Type 0 where
  pub macroblock : (limit : ℕ) (n : Numbers) (base : List ℤ) (column row : ℤ) (words : List ℤ)
      → ((macroblock_result (macroblock_call limit n base column row words).reply).refusal ≡ 0)
      ↔ ((a : Answer) × ((macroblock_call limit n base column row words).reply ≡ Answered a))
  pub picture : (limit : ℕ) (n : Numbers) (base words : List ℤ)
      → ((picture_result (picture_call limit n base words).reply).refusal ≡ 0) ↔ ((c : Counts) × ((picture_call limit n base words).reply ≡ Counted c))
  pub begins : (s : SessionNumbers) (g : GeometryNumbers)
      → ((begin_gives s g).refusal ≡ 0) ↔ (begin_verdict (state_of (session_from_c s)) (numbers_from_c g) ≡ Accepted)
  pub nexts : (s : SessionNumbers) (base words : List ℤ)
      → ((next_gives s base words).macroblock.refusal ≡ 0) ↔ ((a : Answer) × ((next_call (state_of (session_from_c s)) base words).reply ≡ Answered a))
  pub abandons : (s : SessionNumbers) → ((abandon_gives s).refusal ≡ 0) ↔ (abandon_verdict (state_of (session_from_c s)) ≡ Accepted)
  pub text : (t : List ℕ) (words : List ℤ) (reply : TextReply) (new : List ℤ) → TextAnswer t words reply new
      → ((text_result reply).refusal ≡ 0) ↔ ((reply ≡ NoPicture) ⊎ ((u : TextRead) × (reply ≡ Read u)))
  pub log : (t out : List ℕ) (reply : LogReply) (new : List ℕ) → LogAnswer t out reply new
      → ((log_result reply).refusal ≡ 0) ↔ ((l : Logged) × (reply ≡ Written l))
  pub log-text : (t out : List ℕ) (l : Logged) (new : List ℕ) → LogAnswer t out (Written l) new
      → ((log_result (Written l)).text ≡ 0) ↔ (l.verdict ≡ Accepted)

-- empty is 1 exactly where there is no picture, and of a written log where its text means none (document 02, E2)
pub record EmptyWhenNoPicture : Type 0 where
  pub text : (reply : TextReply) → ((text_result reply).empty ≡ 1) ↔ (reply ≡ NoPicture)
  pub log : (l : Logged) → ((log_result (Written l)).empty ≡ 1) ↔ (l.empty ≡ true)

-- A refused text's log is the line of the number and place handed back, and the rule is the refusal's. (SaidByLog is what the log call promises of the verdict
-- and the log's bytes.)
abbrev pub LogLine : Type 0
LogLine =
    (l : Logged) (log : List ℕ) → SaidByLog l.verdict l.empty log → (r : Refusal) → l.verdict ≡ Refused r
    → (log ≡ line_of refused_word ((log_result (Written l)).text ∷ (log_result (Written l)).place ∷ [])) × ((log_result (Written l)).rule ≡ r.rule)

-- ---- The session over every list of calls
-- what a call of the session gives in C; of next also the lent words, afterwards
pub data Gives : Type 0 where
  judged : JudgedResult → Gives
  advanced : AdvancedResult → List ℤ → Gives
  told : TotalsResult → Gives

-- as the functions' contracts say it. (Every geometry of C is that of some numbers: ThereAndBack.)
abbrev pub call_in_c : SessionNumbers → Call → Gives
call_in_c s (begin n) = judged (begin_gives s (numbers_to_c n))
call_in_c s (next base words) = advanced (next_gives s base words) (next_call (state_of (session_from_c s)) base words).words
call_in_c s abandon = judged (abandon_gives s)
call_in_c s totals = told (totals_gives s)

-- the session that it hands back, which is handed to the next call
abbrev pub handed_on : Gives → SessionNumbers
handed_on (judged j) = j.session
handed_on (advanced a words) = a.session
handed_on (told t) = t.session

unfoldable pub through_c : SessionNumbers → List Call → SessionNumbers
through_c s [] = s
through_c s (c ∷ cs) = through_c (handed_on (call_in_c s c)) cs

-- the session in C after a list of calls from a fresh one
abbrev pub session_after_c : List Call → SessionNumbers
session_after_c calls = through_c (session_to_c fresh_session) calls

-- The numbers of a state; and what document 01's call gave, in C: the numbers of the state after it, with the verdict, the reply and the words, or the counts.
abbrev pub state_to_c : State → SessionNumbers
state_to_c s = session_to_c (value_of s)

abbrev pub exchange_in_c : State → Exchange → Gives
exchange_in_c after (begin_gave n v) = judged (judged_result (state_to_c after) v (value_of after))
exchange_in_c after (next_gave base words o) = advanced (advanced_result (state_to_c after) o.reply (value_of after)) o.words
exchange_in_c after (abandon_gave v) = judged (judged_result (state_to_c after) v (value_of after))
exchange_in_c after (totals_gave c) = told (totals_result (state_to_c after) c)

abbrev pub counts_from_c : TotalsResult → Counts
counts_from_c t = record { inherited = t.inherited; intra = t.intra; outside = t.outside }

-- After every list of calls from a fresh session: the session in C is that of the state of document 01's calls, and stands for it; one call more gives what
-- document 01's does; and so totals are the counts of the accepted next calls since the last accepted begin or abandon, and their sum is their number.
pub record SessionInC : Type 0 where
  pub numbers : (calls : List Call) → session_after_c calls ≡ state_to_c (state_after fresh calls)
  pub state : (calls : List Call) → state_of (session_from_c (session_after_c calls)) ≡ state_after fresh calls
  pub gives : (calls : List Call) (c : Call)
      → call_in_c (session_after_c calls) c ≡ exchange_in_c (state_next (state_after fresh calls) c) (exchange (state_after fresh calls) c)
  pub counts : (calls : List Call) → counts_from_c (totals_gives (session_after_c calls)) ≡ counts_of (made_since calls)
  pub sum : (calls : List Call) → sum_of (counts_from_c (totals_gives (session_after_c calls))) ≡ length (made_since calls)
