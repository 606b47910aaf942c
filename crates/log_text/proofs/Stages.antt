-- From what is found of a text to what the log's functions hand back. Assumes nothing.
use Prim.Native.Nat.{ℕ, ◌*◌, ◌≤◌, ◌<◌}
use mathlib.Core.Path.{◌≡◌, refl, sym, ap, subst, ◌∙◌}
use mathlib.Core.Bool.{true, false}
use mathlib.Core.List.{List, [], ◌∷◌, ◌++◌}
use native.Mathlib.Nat.{zero-add}
use native.Mathlib.Omega.{arith}
use lib.Dec.{ltb}
use lib.IntN.{ℤ}
use lib.ListN.{length, take, drop, length-append}
use lib.Seq.{sets-eq, take_at}
use borrow.Author.Tests.{ltb-true}
use Rattle.definitions.specs.declared.Axes.{Axes}
use Rattle.definitions.specs.declared.Numbers.{Numbers}
use Rattle.definitions.specs.declared.Refusal.{Refusal}
use Rattle.definitions.specs.Replies.{Verdict, Accepted}
use Rattle.std.specs.Prelude.{Err as Refused}
use Rattle.definitions.specs.declared.TextRead.{TextRead}
use Rattle.definitions.specs.Replies.{TextReply, NoPicture, Read}
use Rattle.std.specs.Prelude.{Err as NotRead}
use Rattle.definitions.specs.declared.Logged.{Logged}
use Rattle.definitions.specs.Replies.{LogReply}
use Rattle.std.specs.Prelude.{Ok as Written, Err as NotWritten}
use Rattle.definitions.specs.Basics.{pick, all_of}
use Rattle.definitions.specs.Geometry.{axes_of}
use Rattle.definitions.specs.Record.{record_words, narrow}
use Rattle.definitions.specs.Refusals.{refusal, verdict_of, geometry_tests, geometry_verdict, record_tests, all_addresses}
use Rattle.definitions.specs.Text.{Entry, base_of, text_records, Reading, empty, not_read, read_as, Reads, no_bytes, too_long, broken, too_many, read, TextAnswer, wrong_words, no_picture, refused, given}
use Rattle.definitions.specs.Log.{Finding, finds_none, refuses, makes, finding_by, program_tests, judged, finding_of, digits_in, decimal, picture_lines, LogOf, log_for, line_of, sync_word, refused_word, no_picture_line, refused_line, log_bytes, verdict_for, empty_for, LogAnswer, too_few, logged, SaidByLog}
use Rattle.definitions.proofs.Choices.{of-true}
use Rattle.definitions.proofs.Verdicts.{both-passed}
use Rattle.definitions.proofs.Accepted.{accepted-axes}
use Rattle.definitions.proofs.Lines.{digits5, refused-short}
use Rattle.definitions.proofs.Findings.{numbers-wrong, count-wrong, count-right, RefusedBy, by_number, by-record, refused-by, verdict-by, said-by-log}
use Rattle.grammar.proofs.Words.{text-words}
use Rattle.grammar.proofs.OneLog.{demand2, one-verdict, one-empty, none_found, nine-found}
use Rattle.definitions.specs.Accepted.{AcceptedAxes}
use Rattle.definitions.specs.Raster.{base_count}
use Rattle.log_lines.specs.Put.{Fits, Put}
use Rattle.log_picture.proofs.Growing.{picture-short}
use Rattle.std.specs.Prelude.{map, Err as Declined}
use Rattle.std.proofs.lemmas.List.{map-id}
use Rattle.log_text.specs.Given.{Found, NoneFound, Made, Given, nothing_found, kept, lines}
use Rattle.log_text.specs.Promised.{AsJudged, LogPromised}

-- ---- bytes put from the buffer's start on
pub put_first : (out log new : List ℕ) (n : ℕ) → length log ≤ length out → Put out 0 log new n → (n ≡ length log) × (new ≡ log ++ drop (length log) out)
put_first out log new n l p =
    (p.after ∙ zero-add (length log), p.stored ∙ (sets-eq log out 0 (omega arith) ∙ ap (λ (k : ℕ). log ++ drop k out) (zero-add (length log))))

-- there is room for a refusal's line
pub refused-room : (out : List ℕ) (a b : ℕ) → 31 ≤ length out → a ≤ 65536 → b ≤ 65536 → Fits out 0 (line_of refused_word (a ∷ b ∷ []))
unfolding line_of
refused-room out a b room p q = simp length-append (omega (arith, digits5 a (omega arith), digits5 b (omega arith)))

pub no-picture-room : (out : List ℕ) → 31 ≤ length out → Fits out 0 (line_of sync_word (0 ∷ 0 ∷ 0 ∷ 0 ∷ []))
unfolding line_of
no-picture-room out room = simp length-append (omega (arith, digits5 0 (omega arith)))

-- ---- what is given by a verdict
module _ (out log : List ℕ) (v : Verdict) where
  pub given-refusal : (r : Refusal) → v ≡ Refused r → Given out (finding_by v log) (Declined r) out
  given-refusal r e = subst (λ (u : Verdict). Given out (finding_by u log) (Declined r) out) (sym e) kept

  pub given-lines : v ≡ Accepted → (n : ℕ) (new : List ℕ) → length log ≤ length out → Put out 0 log new n → Given out (finding_by v log) (Made n) new
  given-lines e n new l p =
      let h = put_first out log new n l p in
      subst (λ (u : Verdict). Given out (finding_by u log) (Made n) new) (sym e)
      (subst (λ (k : ℕ). Given out (makes log) (Made k) new) (sym h.0) (subst (λ (b : List ℕ). Given out (makes log) (Made (length log)) b) (sym h.1) lines))

-- ---- what is given of a text that is read
module _ (n : Numbers) (count : ℕ) (base : List ℤ) (out : List ℕ) where
  abbrev all : Verdict
  all = verdict_of (program_tests n count base)

  pub wrong-numbers : (r : Refusal) → geometry_verdict n ≡ Refused r → Given out (judged n count base) (Declined r) out
  wrong-numbers r e = given-refusal out _ all r (numbers-wrong n count base r e)

  module _ (axes : Axes) (accepted : geometry_verdict n ≡ Accepted) (is : axes ≡ axes_of n) where
    pub wrong-count : (count ≡ base_count axes → ⊥) → (r : Refusal) → r ≡ refusal 5 → Given out (judged n count base) (Declined r) out
    wrong-count d r e = given-refusal out _ all r (count-wrong n count base accepted (λ s. d (s ∙ ap base_count (sym is))) ∙ ap Refused (sym e))

    module _ (right : count ≡ base_count axes) where
      of-records : all ≡ verdict_of (record_tests narrow base (all_addresses axes))
      of-records = count-right n count base accepted (right ∙ ap base_count is) ∙ ap (λ (g : Axes). verdict_of (record_tests narrow base (all_addresses g))) (sym is)

      pub wrong-record : (r : Refusal) → verdict_of (record_tests narrow base (all_addresses axes)) ≡ Refused r → Given out (judged n count base) (Declined r) out
      wrong-record r e = given-refusal out _ all r (of-records ∙ e)

      pub right-records : verdict_of (record_tests narrow base (all_addresses axes)) ≡ Accepted → AcceptedAxes axes → log_bytes ≤ length out
          → (k : ℕ) (new : List ℕ) → Put out 0 (picture_lines axes base) new k → Given out (judged n count base) (Made k) new
      right-records e a room k new p =
          let l = picture-short (axes_of n) base (subst AcceptedAxes is a) in
          given-lines out (picture_lines (axes_of n) base) all (of-records ∙ e) k new (omega arith) (subst (λ (g : Axes). Put out 0 (picture_lines g base) new k) is p)

-- ---- words of a base, by their numbers
-- what was judged of them
pub judged-same : {w base : List ℤ} {a axes : Axes} {v : Verdict} → w ≡ base → a ≡ axes → verdict_of (record_tests narrow (map (λ x. x) w) (all_addresses a)) ≡ v
    → verdict_of (record_tests narrow base (all_addresses axes)) ≡ v
judged-same {w} {base} p q e =
    let k : base ≡ map (λ x. x) w = sym (map-id w ∙ p) in
    (λ i. verdict_of (record_tests narrow (k i) (all_addresses (sym q i)))) ∙ e

-- and the lines that were put
pub put-same : {w base : List ℤ} {a axes : Axes} {out new : List ℕ} {n : ℕ} → w ≡ base → a ≡ axes → Put out 0 (picture_lines a w) new n → Put out 0 (picture_lines axes base) new n
put-same {out = out} {new} {n} p q = subst (λ (l : List ℕ). Put out 0 l new n) (λ i. picture_lines (q i) (p i))

-- ---- what is given by the text call
-- the words of the record lines are the first of those that were lent
pub record ReadWords (t : List ℕ) (n : Numbers) (count : ℕ) (words : List ℤ) : Type 0 where
  pub few : count ≤ text_records
  pub within : record_words * count ≤ length words
  pub long : length (take (record_words * count) words) ≡ record_words * count
  pub entries : List Entry
  pub reads : Reads t (read_as n entries)
  pub finding : finding_of (read_as n entries) ≡ judged n count (take (record_words * count) words)

pub words-read : {t : List ℕ} {old words : List ℤ} {reply : TextReply} {u : TextRead} → length old ≡ record_words * text_records
    → TextAnswer t old reply words → reply ≡ Read u → ReadWords t u.numbers u.lines words
words-read e (wrong_words d) q = absurd (d e)
words-read e (no_picture f x) q = absurd (let z : ◌≡◌ {A = ℕ} 0 1 = cc in omega arith)
words-read e (refused f x) q = absurd (let z : ◌≡◌ {A = ℕ} 0 1 = cc in omega arith)
words-read {t} {old} {u = u} e (given {n = m} {entries = entries} f (read l x k)) q =
    let same : record { numbers = m; lines = length entries } ≡ u = cc in
    let a : m ≡ u.numbers = ap (λ (v : TextRead). v.numbers) same in
    let c : length entries ≡ u.lines = ap (λ (v : TextRead). v.lines) same in
    let many : length (base_of entries) ≡ record_words * u.lines = text-words x ∙ ap (λ (j : ℕ). record_words * j) c in
    let w : take (record_words * u.lines) (base_of entries ++ drop (record_words * length entries) old) ≡ base_of entries =
    take_at (base_of entries) (drop (record_words * length entries) old) (record_words * u.lines) many in
    record {
      few = omega arith;
      within = omega (arith, length-append (base_of entries) (drop (record_words * length entries) old));
      long = ap length w ∙ many;
      entries = entries;
      reads = subst (λ (i : Numbers). Reads t (read_as i entries)) a (read l x k);
      finding = λ i. judged u.numbers (c i) (sym w i);
    }

pub refused-read : {t : List ℕ} {old words : List ℤ} {reply : TextReply} {r : Refusal} → length old ≡ record_words * text_records
    → TextAnswer t old reply words → reply ≡ NotRead r → Reads t (not_read r)
refused-read e (wrong_words d) q = absurd (d e)
refused-read e (no_picture f x) q = absurd (let z : ◌≡◌ {A = ℕ} 0 1 = cc in omega arith)
refused-read {t} {r = r} e (refused {r = s} f x) q = let z : s ≡ r = cc in subst (λ (s : Refusal). Reads t (not_read s)) z x
refused-read e (given f x) q = absurd (let z : ◌≡◌ {A = ℕ} 0 1 = cc in omega arith)

pub empty-read : {t : List ℕ} {old words : List ℤ} {reply : TextReply} → length old ≡ record_words * text_records
    → TextAnswer t old reply words → reply ≡ NoPicture → Reads t empty
empty-read e (wrong_words d) q = absurd (d e)
empty-read e (no_picture f x) q = x
empty-read e (refused f x) q = absurd (let z : ◌≡◌ {A = ℕ} 0 1 = cc in omega arith)
empty-read e (given f x) q = absurd (let z : ◌≡◌ {A = ℕ} 0 1 = cc in omega arith)

-- ---- the log
-- a refusal's numbers are small
abbrev pub Low : Refusal → Type 0
Low r = (r.number < 100) × (r.place ≤ 65536)

finding-refused : (v : Verdict) (log : List ℕ) (r : Refusal) → finding_by v log ≡ refuses r → v ≡ Refused r
finding-refused Accepted log r e = absurd (let z : ◌≡◌ {A = ℕ} 0 1 = cc in omega arith)
finding-refused (Refused s) log r e = cc

finding-made : (v : Verdict) (log made : List ℕ) → finding_by v log ≡ makes made → (v ≡ Accepted) × (log ≡ made)
finding-made Accepted log made e = (refl, cc)
finding-made (Refused s) log made e = absurd (let z : ◌≡◌ {A = ℕ} 0 1 = cc in omega arith)

by-low : {count : ℕ} {r : Refusal} → count ≤ text_records → RefusedBy count r → Low r
unfolding all_of
by-low l (by_number {k = k} m) = (ltb-true k 100 (of-true (λ x. ltb x 100) (1 ∷ 2 ∷ 3 ∷ 4 ∷ 5 ∷ []) refl m), omega arith)
by-low l (by-record h) = (omega arith, omega arith)

reads-low : {t : List ℕ} {v : Reading} {r : Refusal} → Reads t v → finding_of v ≡ refuses r → Low r
reads-low (no_bytes l) e = absurd (let z : ◌≡◌ {A = ℕ} 0 1 = cc in omega arith)
reads-low {r = r} (too_long l) e = let z : refusal 10 ≡ r = cc in subst Low z (omega arith, omega arith)
reads-low {r = r} (broken {place = p} i l b) e =
    let w = b.within in
    let z : record { number = 9; place = p; rule = 0 } ≡ r = cc in
    subst Low z (omega arith, omega arith)
reads-low {r = r} (too_many l x k) e = let z : refusal 10 ≡ r = cc in subst Low z (omega arith, omega arith)
reads-low {r = r} (read {n = n} {entries = entries} l x k) e =
    by-low k (refused-by (length entries) n (base_of entries) r (finding-refused (verdict_of (program_tests n (length entries) (base_of entries))) (picture_lines (axes_of n) (base_of entries)) r e))

-- every log fits
empty-short : length no_picture_line ≤ log_bytes
unfolding no_picture_line line_of decimal digits_in pick
empty-short = omega arith

finding-short : (v : Reading) {log : List ℕ} → finding_of v ≡ makes log → length log ≤ log_bytes
unfolding program_tests
finding-short empty e = absurd (let z : ◌≡◌ {A = ℕ} 0 1 = cc in omega arith)
finding-short (not_read r) e = absurd (let z : ◌≡◌ {A = ℕ} 0 1 = cc in omega arith)
finding-short (read_as n entries) {log} e =
    let h = finding-made (verdict_of (program_tests n (length entries) (base_of entries))) (picture_lines (axes_of n) (base_of entries)) log e in
    let axes = accepted-axes n (both-passed (geometry_tests n) _ h.0).0 in
    subst (λ (o : List ℕ). length o ≤ log_bytes) h.1 (picture-short (axes_of n) (base_of entries) axes)

pub log-fits : {t log : List ℕ} → LogOf t log → length log ≤ log_bytes
log-fits h = subst (λ (o : List ℕ). length o ≤ log_bytes) (sym h.is) (by (finding_of h.reading) refl)
  where
    by : (f : Finding) → finding_of h.reading ≡ f → length (log_for f) ≤ log_bytes
    by finds_none e = empty-short
    by (refuses r) e = let l = reads-low h.reads e in omega (arith, refused-short r l.0 l.1)
    by (makes made) e = finding-short h.reading e

-- ---- the log call
-- an answer with demand 2 of it: the contract's two parts
promised : {t out new : List ℕ} {reply : LogReply} → LogAnswer t out reply new → LogPromised t reply new
promised (too_few l) = λ h. omega (arith, l, h)
promised {t} {out} (logged {log = log} room h) =
    let first = sym (take_at log (drop (length log) out) (length log) refl) in
    record {
      said = subst (SaidByLog _ _) first (said-by-log h);
      no_bytes = (none_found h.reading h.reads, λ l. one-empty h (record { reading = empty; reads = no_bytes l; is = refl }));
      nine = λ r e n. nine-found h.reading h.reads e n;
      as-judged = λ n entries x l k. subst (AsJudged n entries _) first (record {
        verdict-is = one-verdict h (record { reading = read_as n entries; reads = read l x k; is = refl }) ∙ verdict-by (verdict_of (program_tests n (length entries) (base_of entries))) _;
        refused-only = demand2.log t n entries x l k log h;
      });
    }

pub answered : {t out new : List ℕ} {reply : LogReply} → LogAnswer t out reply new → LogAnswer t out reply new × LogPromised t reply new
answered a = (a, promised a)

-- the log of a finding, with its verdict
by-finding : {t out new : List ℕ} {v : Reading} (f : Finding) {l : Logged} → log_bytes ≤ length out → Reads t v → finding_of v ≡ f
    → record { bytes = length (log_for f); verdict = verdict_for f; empty = empty_for f } ≡ l → log_for f ++ drop (length (log_for f)) out ≡ new → LogAnswer t out (Written l) new
by-finding {t} {out} {new} {v} f room x is a b =
    subst (λ (l : Logged). LogAnswer t out (Written l) new) a
    (subst (λ (g : Finding). LogAnswer t out (Written (record { bytes = length (log_for f); verdict = verdict_for g; empty = empty_for g })) new) is
    (subst (λ (n : List ℕ). LogAnswer t out (Written (record { bytes = length (log_for f); verdict = verdict_for (finding_of v); empty = empty_for (finding_of v) })) n) b
    (logged room (record { reading = v; reads = x; is = sym (ap log_for is) }))))

-- lines were given
pub lines-logged : {t out new : List ℕ} {v : Reading} {f : Finding} {reply : Found} {n : ℕ} → log_bytes ≤ length out
    → Reads t v → finding_of v ≡ f → Given out f reply new → reply ≡ Made n → LogAnswer t out (Written (record { bytes = n; verdict = Accepted; empty = false })) new
lines-logged room x is nothing_found e = absurd (let z : ◌≡◌ {A = ℕ} 0 1 = cc in omega arith)
lines-logged room x is kept e = absurd (let z : ◌≡◌ {A = ℕ} 0 1 = cc in omega arith)
lines-logged {n = n} room x is (lines {log = log}) e =
    let z : length log ≡ n = cc in
    by-finding (makes log) room x is (λ i. record { bytes = z i; verdict = Accepted; empty = false }) refl

-- a refusal was given, and its line is put
pub record Kept (t out : List ℕ) (r : Refusal) (mid : List ℕ) : Type 0 where
  pub reading : Reading
  pub reads : Reads t reading
  pub finding : finding_of reading ≡ refuses r
  pub low : Low r
  pub same : mid ≡ out

pub refusal-kept : {t out mid : List ℕ} {v : Reading} {f : Finding} {reply : Found} {r : Refusal} → Reads t v → finding_of v ≡ f → Given out f reply mid
    → reply ≡ Declined r → Kept t out r mid
refusal-kept x is nothing_found e = absurd (let z : ◌≡◌ {A = ℕ} 0 1 = cc in omega arith)
refusal-kept {v = v} {r = r} x is (kept {r = s}) e =
    let q : s ≡ r = cc in
    let found : finding_of v ≡ refuses r = is ∙ ap refuses q in
    record { reading = v; reads = x; finding = found; low = reads-low x found; same = refl }
refusal-kept x is lines e = absurd (let z : ◌≡◌ {A = ℕ} 0 1 = cc in omega arith)

pub refusal-logged : {t out mid new : List ℕ} {r : Refusal} {n : ℕ} → log_bytes ≤ length out → Kept t out r mid → Put mid 0 (refused_line r) new n
    → LogAnswer t out (Written (record { bytes = n; verdict = Refused r; empty = false })) new
refusal-logged {t} {out} {mid} {new} {r} {n} room k p =
    let l = refused-short r k.low.0 k.low.1 in
    let h = put_first out (refused_line r) new n (omega arith) (subst (λ (o : List ℕ). Put o 0 (refused_line r) new n) k.same p) in
    by-finding (refuses r) room k.reads k.finding (λ i. record { bytes = sym h.0 i; verdict = Refused r; empty = false }) (sym h.1)

-- there is no picture, and its line is put
pub empty-kept : {out mid : List ℕ} {reply : Found} (v : Reading) → Given out (finding_of v) reply mid → reply ≡ NoneFound → (finding_of v ≡ finds_none) × (mid ≡ out)
empty-kept v g e = by (finding_of v) g e
  where
    by : {out mid : List ℕ} {reply : Found} (f : Finding) → Given out f reply mid → reply ≡ NoneFound → (f ≡ finds_none) × (mid ≡ out)
    by finds_none nothing_found e = (refl, refl)
    by (refuses r) kept e = absurd (let z : ◌≡◌ {A = ℕ} 0 1 = cc in omega arith)
    by (makes log) lines e = absurd (let z : ◌≡◌ {A = ℕ} 0 1 = cc in omega arith)

pub empty-logged : {t out mid new : List ℕ} {v : Reading} {n : ℕ} → log_bytes ≤ length out → Reads t v → (finding_of v ≡ finds_none) × (mid ≡ out) → Put mid 0 no_picture_line new n
    → LogAnswer t out (Written (record { bytes = n; verdict = Accepted; empty = true })) new
empty-logged {t} {out} {mid} {new} {v} {n} room x k p =
    let h = put_first out no_picture_line new n (omega (arith, empty-short)) (subst (λ (o : List ℕ). Put o 0 no_picture_line new n) k.1 p) in
    by-finding finds_none room x k.0 (λ i. record { bytes = sym h.0 i; verdict = Accepted; empty = true }) (sym h.1)

-- with room for every log it is written, and lies in the buffer
pub never-refused : {A : Type 0} {t out new : List ℕ} {reply : LogReply} {r : Refusal} → log_bytes ≤ length out → LogAnswer t out reply new → reply ≡ NotWritten r → A
never-refused room (too_few l) e = absurd (omega arith)
never-refused room (logged l h) e = absurd (let z : ◌≡◌ {A = ℕ} 0 1 = cc in omega arith)

within_by : {t out new : List ℕ} {reply : LogReply} {l : Logged} → LogAnswer t out reply new → reply ≡ Written l → l.bytes ≤ length new
within_by (too_few l) e = absurd (let z : ◌≡◌ {A = ℕ} 0 1 = cc in omega arith)
within_by {out = out} {l = l} (logged {log = log} room h) e =
    let w : record { bytes = length log; verdict = verdict_for (finding_of h.reading); empty = empty_for (finding_of h.reading) } ≡ l = cc in
    let z : length log ≡ l.bytes = ap (λ (k : Logged). k.bytes) w in
    omega (arith, length-append log (drop (length log) out))

pub log-within : {t out new : List ℕ} {l : Logged} → LogAnswer t out (Written l) new → l.bytes ≤ length new
log-within h = within_by h refl
