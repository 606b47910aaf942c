-- The laws of the C definitions (specs/Laws): numbers there and back, classes, refusal 0, and the session over every list of calls. Assumes nothing.
use Prim.Native.Nat.{ℕ, zero, suc, ◌≤◌}
use mathlib.Core.Path.{◌≡◌, refl, sym, ap, subst, ◌∙◌}
use mathlib.Core.Logic.{◌↔◌, ◌⊎◌, inl, inr}
use mathlib.Core.Bool.{Bool, true, false, false≢true}
use mathlib.Core.List.{List, [], ◌∷◌, ◌++◌}
use native.Mathlib.Omega.{arith}
use lib.Dec.{eqb, ltb}
use lib.IntN.{ℤ, nat_abs}
use lib.ListN.{length}
use borrow.Author.Tests.{ltb-true}
use Rattle.definitions.specs.declared.Numbers.{Numbers}
use Rattle.definitions.specs.declared.Class.{Class}
use Rattle.definitions.specs.declared.Class.TheVariants.{Corner, Vert, Hori, Center}
use Rattle.definitions.specs.declared.Answer.{Answer}
use Rattle.definitions.specs.declared.Counts.{Counts}
use Rattle.definitions.specs.declared.Refusal.{Refusal}
use Rattle.definitions.specs.Replies.{Verdict, Accepted}
use Rattle.std.specs.Prelude.{Err as Refused}
use Rattle.definitions.specs.Replies.{MacroblockReply}
use Rattle.std.specs.Prelude.{Ok as Answered, Err as Declined}
use Rattle.definitions.specs.Replies.{PictureReply}
use Rattle.std.specs.Prelude.{Ok as Counted, Err as NotMade}
use Rattle.definitions.specs.declared.TextRead.{TextRead}
use Rattle.definitions.specs.Replies.{TextReply, NoPicture, Read}
use Rattle.std.specs.Prelude.{Err as NotRead}
use Rattle.definitions.specs.declared.Logged.{Logged}
use Rattle.definitions.specs.Replies.{LogReply}
use Rattle.std.specs.Prelude.{Ok as Written}
use Rattle.definitions.specs.Basics.{all_of}
use Rattle.definitions.specs.Geometry.{axes_of}
use Rattle.definitions.specs.Record.{narrow}
use Rattle.definitions.specs.Refusals.{Test, refusal, verdict_of, geometry_tests, record_tests, addresses_read, all_addresses}
use Rattle.definitions.specs.Calls.{Outcome, by_verdict, no_counts, counts_of, sum_of, macroblock_tests, picture_tests, macroblock_call, picture_call}
use Rattle.definitions.specs.Session.{Call, begin, next, abandon, totals, State, fresh, begun, totals_of, onward_tests, begin_tests, begin_verdict, abandon_verdict, call_at_next, next_call, if_accepted, Exchange, begin_gave, next_gave, abandon_gave, totals_gave, exchange, state_next, state_after, made_since, sound}
use Rattle.definitions.specs.Session.{advanced as advanced_state}
use Rattle.definitions.specs.Text.{Reading, empty, not_read, read_as, Reads, no_bytes, too_long, broken, too_many, read, base_of, TextAnswer, wrong_words, no_picture, refused, given}
use Rattle.definitions.specs.Log.{line_of, refused_word, refused_line, finding_of, verdict_for, empty_for, program_tests, picture_lines, LogAnswer, too_few, logged}
use Rattle.definitions.proofs.Choices.{of-true}
use Rattle.definitions.proofs.Verdicts.{EachGives, given_by, reply-refused}
use Rattle.definitions.proofs.RecordLists.{records-give}
use Rattle.definitions.proofs.Rising.{declined}
use Rattle.definitions.proofs.Findings.{refused-by, number_of, verdict-by}
use Rattle.definitions.proofs.Sessions.{sound-next, only-sound, totals-right}
use Rattle.session.specs.declared.Session.{Session}
use Rattle.session.specs.Values.{value_of, state_of, handed_back}
use Rattle.session.proofs.Values.{state-of-value, handed-value}
use Rattle.spiewomir.specs.declared.SessionNumbers.{SessionNumbers}
use Rattle.spiewomir.specs.declared.AdvancedResult.{AdvancedResult}
use Rattle.spiewomir.specs.Results.{numbers_from_c, class_number, macroblock_result, picture_result}
use Rattle.spiewomir.specs.Sessions.{flag, session_from_c, session_to_c, judged_result, session_after, advanced_result, totals_result, totals_gives}
use Rattle.spiewomir.specs.Texts.{text_result, log_result, written_result}
use Rattle.spiewomir.specs.Laws.{ThereAndBack, ClassesDiffer, ZeroWhenAnswered, EmptyWhenNoPicture, LogLine, judged, advanced, told, call_in_c, handed_on, through_c, session_after_c, state_to_c, exchange_in_c, counts_from_c, SessionInC}

-- ---- The log's line
pub log-line : LogLine
unfolding refused_line
log-line l log said r e =
    let k = ap (λ (v : Verdict). written_result l.bytes v l.empty) e in (
      said.refused r e ∙ (λ i. line_of refused_word ((sym k i).text ∷ (sym k i).place ∷ [])),
      (λ i. (k i).rule),
    )

-- ---- There and back
flag-back : (b : Bool) → eqb (flag b) 1 ≡ b
flag-back true = refl
flag-back false = refl

flag-forth : (k : ℕ) → k ≤ 1 → flag (eqb k 1) ≡ k
flag-forth zero h = refl
flag-forth (suc zero) h = refl
flag-forth (suc (suc k)) h = absurd (omega arith)

session-back : (v : Session) → session_from_c (session_to_c v) ≡ v
session-back v = λ i. record { begun = flag-back v.begun i; numbers = v.numbers; counts = v.counts }

pub there_and_back : ThereAndBack
there_and_back = record {
  numbers = λ n. refl;
  geometry = λ g. refl;
  session = session-back;
  session-numbers = λ s h. λ i. record { begun = flag-forth s.begun h i; geometry = s.geometry; inherited = s.inherited; intra = s.intra; outside = s.outside };
}

-- ---- Classes
abbrev class_by : ℕ → Class
class_by zero = Corner
class_by (suc zero) = Vert
class_by (suc (suc zero)) = Hori
class_by (suc (suc (suc n))) = Center

class_back : (c : Class) → class_by (class_number c) ≡ c
class_back Corner = refl
class_back Vert = refl
class_back Hori = refl
class_back Center = refl

pub classes-differ : ClassesDiffer
classes-differ c d e = sym (class_back c) ∙ (ap class_by e ∙ class_back d)

-- ---- Refusal 0
-- no refusal has number 0
abbrev NotZero : Refusal → Type 0
NotZero r = r.number ≡ 0 → ⊥

each_both : (xs ys : List Test) → EachGives NotZero xs → EachGives NotZero ys → EachGives NotZero (xs ++ ys)
each_both [] ys h k = k
each_both (x ∷ xs) ys h k = (h.0, each_both xs ys h.1 k)

of-geometry : (n : Numbers) → EachGives NotZero (geometry_tests n)
unfolding geometry_tests
of-geometry n = (λ e. omega arith, (λ e. omega arith, (λ e. omega arith, (λ e. omega arith, tt))))

of-records : (limit : ℕ) (base : List ℤ) (addresses : List ℕ) → EachGives NotZero (record_tests limit base addresses)
of-records limit base addresses = records-give limit NotZero base addresses (λ a m e. omega arith)

of-macroblock : (limit : ℕ) (n : Numbers) (base : List ℤ) (column row : ℤ) (words : List ℤ) → EachGives NotZero (macroblock_tests limit n base column row words)
unfolding macroblock_tests
of-macroblock limit n base column row words =
    each_both (geometry_tests n) _ (of-geometry n) (λ e. omega arith, (λ e. omega arith, (λ e. omega arith, of-records limit base (addresses_read (axes_of n) (nat_abs column) (nat_abs row)))))

of-picture : (limit : ℕ) (n : Numbers) (base words : List ℤ) → EachGives NotZero (picture_tests limit n base words)
unfolding picture_tests
of-picture limit n base words = each_both (geometry_tests n) _ (of-geometry n) (λ e. omega arith, (λ e. omega arith, of-records limit base (all_addresses (axes_of n))))

of-onward : (s : State) → EachGives NotZero (onward_tests s)
of-onward s = (λ e. omega arith, (λ e. omega arith, tt))

of-begin : (s : State) (n : Numbers) → EachGives NotZero (begin_tests s ++ geometry_tests n)
of-begin s n = (λ e. omega arith, of-geometry n)

-- replies and verdicts
reply-zero : (reply : MacroblockReply) → ((r : Refusal) → reply ≡ Declined r → NotZero r) → ((macroblock_result reply).refusal ≡ 0) ↔ ((a : Answer) × (reply ≡ Answered a))
reply-zero (Answered a) h = (λ e. (a, refl), λ w. refl)
reply-zero (Declined r) h = (λ e. absurd (h r refl e), λ w. absurd (let q = w.1 in let z : ◌≡◌ {A = ℕ} 0 1 = cc in omega arith))

picture-zero : (reply : PictureReply) → ((r : Refusal) → reply ≡ NotMade r → NotZero r) → ((picture_result reply).refusal ≡ 0) ↔ ((c : Counts) × (reply ≡ Counted c))
picture-zero (Counted c) h = (λ e. (c, refl), λ w. refl)
picture-zero (NotMade r) h = (λ e. absurd (h r refl e), λ w. absurd (let q = w.1 in let z : ◌≡◌ {A = ℕ} 0 1 = cc in omega arith))

verdict-zero : (s : SessionNumbers) (v : Verdict) (after : Session) → ((r : Refusal) → v ≡ Refused r → NotZero r) → ((judged_result s v after).refusal ≡ 0) ↔ (v ≡ Accepted)
verdict-zero s Accepted after h = (λ e. refl, λ w. refl)
verdict-zero s (Refused r) after h = (λ e. absurd (h r refl e), λ w. absurd (let z : ◌≡◌ {A = ℕ} 0 1 = cc in omega arith))

written-zero : (n : ℕ) (v : Verdict) (b : Bool) → ((r : Refusal) → v ≡ Refused r → NotZero r) → ((written_result n v b).text ≡ 0) ↔ (v ≡ Accepted)
written-zero n Accepted b h = (λ e. refl, λ w. refl)
written-zero n (Refused r) b h = (λ e. absurd (h r refl e), λ w. absurd (let z : ◌≡◌ {A = ℕ} 0 1 = cc in omega arith))

call-zero : (limit : ℕ) (n : Numbers) (base : List ℤ) (column row : ℤ) (words : List ℤ) (r : Refusal) → (macroblock_call limit n base column row words).reply ≡ Declined r → NotZero r
call-zero limit n base column row words r e = given_by NotZero (macroblock_tests limit n base column row words) (of-macroblock limit n base column row words) r (declined limit n base column row words r e)

made-zero : (limit : ℕ) (n : Numbers) (base words : List ℤ) (r : Refusal) → (picture_call limit n base words).reply ≡ NotMade r → NotZero r
unfolding picture_call
made-zero limit n base words r e =
    given_by NotZero (picture_tests limit n base words) (of-picture limit n base words) r (reply-refused (verdict_of (picture_tests limit n base words)) NotMade words _ r (λ q p. cc) (λ p. let z : ◌≡◌ {A = ℕ} 0 1 = cc in omega arith) e)

begin-zero : (s : State) (n : Numbers) (r : Refusal) → begin_verdict s n ≡ Refused r → NotZero r
unfolding begin_verdict
begin-zero s n r e = given_by NotZero (begin_tests s ++ geometry_tests n) (of-begin s n) r e

abandon-zero : (s : State) (r : Refusal) → abandon_verdict s ≡ Refused r → NotZero r
unfolding abandon_verdict
abandon-zero s r e = given_by NotZero (onward_tests s) (of-onward s) r e

declined-by : (v : Verdict) (words : List ℤ) (made : Outcome MacroblockReply) → ((r : Refusal) → v ≡ Refused r → NotZero r) → ((r : Refusal) → made.reply ≡ Declined r → NotZero r)
    → (r : Refusal) → (by_verdict v Declined words made).reply ≡ Declined r → NotZero r
declined-by Accepted words made h k r e = k r e
declined-by (Refused q) words made h k r e = let same : q ≡ r = cc in subst NotZero same (h q refl)

at-next-zero : (s : State) (base words : List ℤ) (r : Refusal) → (call_at_next s base words).reply ≡ Declined r → NotZero r
at-next-zero fresh base words r e = let same : refusal 20 ≡ r = cc in subst NotZero same (λ z. omega arith)
at-next-zero (begun n c) base words r e = call-zero narrow n base _ _ words r e

next-zero : (s : State) (base words : List ℤ) (r : Refusal) → (next_call s base words).reply ≡ Declined r → NotZero r
unfolding next_call
next-zero s base words = declined-by (verdict_of (onward_tests s)) words (call_at_next s base words) (given_by NotZero (onward_tests s) (of-onward s)) (at-next-zero s base words)

-- texts
not-read-zero : {t : List ℕ} {v : Reading} {r : Refusal} → Reads t v → v ≡ not_read r → NotZero r
not-read-zero (no_bytes l) e = absurd (let z : ◌≡◌ {A = ℕ} 0 1 = cc in omega arith)
not-read-zero {r = r} (too_long l) e = let same : refusal 10 ≡ r = cc in subst NotZero same (λ z. omega arith)
not-read-zero {r = r} (broken {place = p} i l b) e = let same : record { number = 9; place = p; rule = 0 } ≡ r = cc in subst NotZero same (λ z. omega arith)
not-read-zero {r = r} (too_many l x k) e = let same : refusal 10 ≡ r = cc in subst NotZero same (λ z. omega arith)
not-read-zero (read l x k) e = absurd (let z : ◌≡◌ {A = ℕ} 0 1 = cc in omega arith)

not-accepted : {r : Refusal} → (NotRead r ≡ NoPicture) ⊎ ((u : TextRead) × (NotRead r ≡ Read u)) → ⊥
not-accepted (inl e) = let z : ◌≡◌ {A = ℕ} 0 1 = cc in omega arith
not-accepted (inr w) = let q = w.1 in let z : ◌≡◌ {A = ℕ} 0 1 = cc in omega arith

text-zero : {t : List ℕ} {words new : List ℤ} {reply : TextReply} → TextAnswer t words reply new → ((text_result reply).refusal ≡ 0) ↔ ((reply ≡ NoPicture) ⊎ ((u : TextRead) × (reply ≡ Read u)))
text-zero (wrong_words d) = (λ e. absurd (omega arith), λ w. absurd (not-accepted w))
text-zero (no_picture l x) = (λ e. inl refl, λ w. refl)
text-zero (refused l x) = (λ e. absurd (not-read-zero x refl e), λ w. absurd (not-accepted w))
text-zero (given l x) = (λ e. inr (_, refl), λ w. refl)

log-zero : {t out new : List ℕ} {reply : LogReply} → LogAnswer t out reply new → ((log_result reply).refusal ≡ 0) ↔ ((l : Logged) × (reply ≡ Written l))
log-zero (too_few l) = (λ e. absurd (omega arith), λ w. absurd (let q = w.1 in let z : ◌≡◌ {A = ℕ} 0 1 = cc in omega arith))
log-zero (logged {log = log} room found) = (λ e. (_, refl), λ w. refused_none (length log) (verdict_for (finding_of found.reading)) (empty_for (finding_of found.reading)))
  where
    refused_none : (n : ℕ) (v : Verdict) (b : Bool) → (written_result n v b).refusal ≡ 0
    refused_none n Accepted b = refl
    refused_none n (Refused r) b = refl

-- the text's refusal that a log says
finding-zero : {t : List ℕ} (v : Reading) {r : Refusal} → Reads t v → verdict_for (finding_of v) ≡ Refused r → NotZero r
unfolding all_of
finding-zero empty {r} x e = absurd (let z : ◌≡◌ {A = ℕ} 0 1 = cc in omega arith)
finding-zero (not_read q) {r} x e = let same : q ≡ r = cc in not-read-zero x (ap not_read same)
finding-zero (read_as n entries) {r} x e =
    let v = sym (verdict-by (verdict_of (program_tests n (length entries) (base_of entries))) (picture_lines (axes_of n) (base_of entries))) ∙ e in
    let m = number_of (refused-by (length entries) n (base_of entries) r v) in
    let l = ltb-true 0 r.number (of-true (λ x. ltb 0 x) (1 ∷ 2 ∷ 3 ∷ 4 ∷ 5 ∷ 8 ∷ []) refl m) in
    λ z. omega arith

said-zero : {t out new : List ℕ} {reply : LogReply} {l : Logged} → LogAnswer t out reply new → reply ≡ Written l → (r : Refusal) → l.verdict ≡ Refused r → NotZero r
said-zero (too_few h) e r v = absurd (let z : ◌≡◌ {A = ℕ} 0 1 = cc in omega arith)
said-zero {l = l} (logged {log = log} room found) e r v =
    let w : record { bytes = length log; verdict = verdict_for (finding_of found.reading); empty = empty_for (finding_of found.reading) } ≡ l = cc in
    finding-zero found.reading found.reads (ap (λ (k : Logged). k.verdict) w ∙ v)

-- no picture
flag_one : (b : Bool) → (flag b ≡ 1) ↔ (b ≡ true)
flag_one true = (λ e. refl, λ e. refl)
flag_one false = (λ e. absurd (omega (arith, e)), λ e. absurd (false≢true e))

written-empty : (n : ℕ) (v : Verdict) (b : Bool) → ((written_result n v b).empty ≡ 1) ↔ (b ≡ true)
written-empty n Accepted b = flag_one b
written-empty n (Refused r) b = flag_one b

text-empty : (reply : TextReply) → ((text_result reply).empty ≡ 1) ↔ (reply ≡ NoPicture)
text-empty NoPicture = (λ e. refl, λ w. refl)
text-empty (Read u) = (λ e. absurd (omega (arith, e)), λ w. absurd (let z : ◌≡◌ {A = ℕ} 0 1 = cc in omega arith))
text-empty (NotRead r) = (λ e. absurd (omega (arith, e)), λ w. absurd (let z : ◌≡◌ {A = ℕ} 0 1 = cc in omega arith))

pub empty-when-no-picture : EmptyWhenNoPicture
empty-when-no-picture = record { text = text-empty; log = λ l. written-empty l.bytes l.verdict l.empty }

pub zero-when-answered : ZeroWhenAnswered
zero-when-answered = record {
  macroblock = λ limit n base column row words. reply-zero (macroblock_call limit n base column row words).reply (call-zero limit n base column row words);
  picture = λ limit n base words. picture-zero (picture_call limit n base words).reply (made-zero limit n base words);
  begins = λ s g. verdict-zero s (begin_verdict (state_of (session_from_c s)) (numbers_from_c g)) _ (begin-zero (state_of (session_from_c s)) (numbers_from_c g));
  nexts = λ s base words. reply-zero (next_call (state_of (session_from_c s)) base words).reply (next-zero (state_of (session_from_c s)) base words);
  abandons = λ s. verdict-zero s (abandon_verdict (state_of (session_from_c s))) _ (abandon-zero (state_of (session_from_c s)));
  text = λ t words reply new h. text-zero h;
  log = λ t out reply new h. log-zero h;
  log-text = λ t out l new h. written-zero l.bytes l.verdict l.empty (said-zero h refl);
}

-- ---- The session over every list of calls
-- a refused call leaves the state, so that its numbers are those of the state after it
settled : (s : State) (v : Verdict) (after : State)
    → judged_result (state_to_c s) v (value_of (if_accepted v after s)) ≡ judged_result (state_to_c (if_accepted v after s)) v (value_of (if_accepted v after s))
settled s Accepted after = refl
settled s (Refused r) after = refl

went_on : (s : State) (reply : MacroblockReply)
    → advanced_result (state_to_c s) reply (value_of (advanced_state reply s)) ≡ advanced_result (state_to_c (advanced_state reply s)) reply (value_of (advanced_state reply s))
went_on s (Answered a) = refl
went_on fresh (Declined r) = refl
went_on (begun n c) (Declined r) = refl

-- one call, in C and by document 01
call-carried : (s : State) (c : Call) → sound s ≡ true → call_in_c (state_to_c s) c ≡ exchange_in_c (state_next s c) (exchange s c)
unfolding exchange state_next
call-carried s (begin n) h =
    (λ i. judged (judged_result (state_to_c s) (begin_verdict (state_of (session-back (value_of s) i)) n) (handed_back (session-back (value_of s) i) (begin n))))
    ∙ ((λ i. judged (judged_result (state_to_c s) (begin_verdict (state-of-value s h i) n) (handed-value s (begin n) h i))) ∙ ap judged (settled s (begin_verdict s n) (begun n no_counts)))
call-carried s (next base words) h =
    (λ i. advanced (advanced_result (state_to_c s) (next_call (state_of (session-back (value_of s) i)) base words).reply (handed_back (session-back (value_of s) i) (next base words)))
    (next_call (state_of (session-back (value_of s) i)) base words).words)
    ∙ ((λ i. advanced (advanced_result (state_to_c s) (next_call (state-of-value s h i) base words).reply (handed-value s (next base words) h i)) (next_call (state-of-value s h i) base words).words)
    ∙ ap (λ (a : AdvancedResult). advanced a (next_call s base words).words) (went_on s (next_call s base words).reply))
call-carried s abandon h =
    (λ i. judged (judged_result (state_to_c s) (abandon_verdict (state_of (session-back (value_of s) i))) (handed_back (session-back (value_of s) i) abandon)))
    ∙ ((λ i. judged (judged_result (state_to_c s) (abandon_verdict (state-of-value s h i)) (handed-value s abandon h i))) ∙ ap judged (settled s (abandon_verdict s) fresh))
call-carried s totals h =
    (λ i. told (totals_result (state_to_c s) (totals_of (state_of (session-back (value_of s) i))))) ∙ (λ i. told (totals_result (state_to_c s) (totals_of (state-of-value s h i))))

-- the session handed back is the numbers of the state after the call
handed-numbers : (after : State) (e : Exchange) → handed_on (exchange_in_c after e) ≡ state_to_c after
handed-numbers after (begin_gave n Accepted) = refl
handed-numbers after (begin_gave n (Refused r)) = refl
handed-numbers after (next_gave base words o) = by o.reply
  where
    by : (reply : MacroblockReply) → session_after (state_to_c after) reply (value_of after) ≡ state_to_c after
    by (Answered a) = refl
    by (Declined r) = refl
handed-numbers after (abandon_gave Accepted) = refl
handed-numbers after (abandon_gave (Refused r)) = refl
handed-numbers after (totals_gave c) = refl

through_carried : (s : State) (calls : List Call) → sound s ≡ true → through_c (state_to_c s) calls ≡ state_to_c (state_after s calls)
unfolding through_c state_after
through_carried s [] h = refl
through_carried s (c ∷ cs) h =
    ap (λ (n : SessionNumbers). through_c n cs) (ap handed_on (call-carried s c h) ∙ handed-numbers (state_next s c) (exchange s c))
    ∙ through_carried (state_next s c) cs (sound-next s c h)

numbers_after : (calls : List Call) → session_after_c calls ≡ state_to_c (state_after fresh calls)
numbers_after calls = through_carried fresh calls refl

state-after : (calls : List Call) → state_of (session_from_c (session_after_c calls)) ≡ state_after fresh calls
state-after calls =
    let s = state_after fresh calls in
    ap state_of (ap session_from_c (numbers_after calls) ∙ session-back (value_of s)) ∙ state-of-value s (only-sound calls)

counts-after : (calls : List Call) → counts_from_c (totals_gives (session_after_c calls)) ≡ counts_of (made_since calls)
unfolding exchange
counts-after calls = ap totals_of (state-after calls) ∙ cc (totals-right.counts calls)

pub session-in-c : SessionInC
session-in-c = record {
  numbers = numbers_after;
  state = state-after;
  gives = λ calls c. ap (λ (n : SessionNumbers). call_in_c n c) (numbers_after calls) ∙ call-carried (state_after fresh calls) c (only-sound calls);
  counts = counts-after;
  sum = λ calls. ap sum_of (counts-after calls) ∙ totals-right.sum calls;
}
