-- A text has one log and one verdict, and demand 2 of it: a text that is read is refused only for what 1 to 5 and 8 say. The last declaration, demand2, is the
-- theorem, both halves (specs/Log). Assumes nothing.
use Prim.Native.Nat.{ℕ, ◌<◌}
use mathlib.Core.Path.{◌≡◌, refl, sym, ap, subst, ◌∙◌}
use mathlib.Core.Bool.{true, false, false≢true}
use mathlib.Core.List.{List, [], ◌∷◌, Memᴰ}
use native.Mathlib.Omega.{arith}
use lib.ListN.{length, take, length-take}
use Rattle.definitions.specs.declared.Numbers.{Numbers}
use Rattle.definitions.specs.declared.Refusal.{Refusal}
use Rattle.definitions.specs.Replies.{Verdict, Accepted}
use Rattle.std.specs.Prelude.{Err as Refused}
use Rattle.definitions.specs.Geometry.{axes_of}
use Rattle.definitions.specs.Refusals.{refusal, verdict_of}
use Rattle.definitions.specs.Text.{Entry, text_bytes, base_of, Reading, empty, not_read, read_as, Reads, no_bytes, too_long, read}
use Rattle.definitions.specs.Log.{finding_by, finding_of, LogOf, log_for, verdict_for, empty_for, program_tests, picture_lines, refused_line, Demand2Log, Demand2Empty, Demand2Entire}
use Rattle.definitions.proofs.Lines.{lines-differ, empty-differs, refused-number}
use Rattle.definitions.proofs.Findings.{refused-by, number_of, said-by-log}
use Rattle.grammar.proofs.Once.{had, has-bytes, reads-once, demand2-text}

pub one-log : {t v w : List ℕ} → LogOf t v → LogOf t w → v ≡ w
one-log x y = x.is ∙ (ap (λ (r : Reading). log_for (finding_of r)) (reads-once x.reads y.reads) ∙ sym y.is)

pub one-verdict : {t v w : List ℕ} (x : LogOf t v) (y : LogOf t w) → verdict_for (finding_of x.reading) ≡ verdict_for (finding_of y.reading)
one-verdict x y = ap (λ (r : Reading). verdict_for (finding_of r)) (reads-once x.reads y.reads)

pub one-empty : {t v w : List ℕ} (x : LogOf t v) (y : LogOf t w) → empty_for (finding_of x.reading) ≡ empty_for (finding_of y.reading)
one-empty x y = ap (λ (r : Reading). empty_for (finding_of r)) (reads-once x.reads y.reads)

-- The program needs no more than the first bytes of a longer input: too many for a text already, they have the log of all, which is refusal 10.
pub long-refused : (t l : List ℕ) → text_bytes < length t → LogOf t l → l ≡ refused_line (refusal 10)
long-refused t l h found = one-log found (record { reading = not_read (refusal 10); reads = too_long h; is = refl })

pub first-bytes : (k : ℕ) (t l : List ℕ) → text_bytes < length (take k t) → LogOf (take k t) l → LogOf t l
first-bytes k t l h found =
    record { reading = not_read (refusal 10); reads = too_long (omega (arith, length-take k t)); is = long-refused (take k t) l h found }

-- bytes of a refusal are those of the refusal found, so its number is that one's
number-only :
    {log lines ns : List ℕ} (v : Verdict) → log ≡ log_for (finding_by v lines) → ((r : Refusal) → v ≡ Refused r → Memᴰ r.number ns)
    → ((r : Refusal) → lines ≡ refused_line r → ⊥) → (r : Refusal) → log ≡ refused_line r → Memᴰ r.number ns
number-only Accepted is m d r e = absurd (d r (sym is ∙ e))
number-only {ns = ns} (Refused s) is m d r e = subst (λ (k : ℕ). Memᴰ k ns) (refused-number s r (sym is ∙ e)) (m s refl)

-- demand 2, the second half
pub demand2-log : Demand2Log
demand2-log t n entries x l k log found =
    let base = base_of entries in
    let tests = program_tests n (length entries) base in
    let lines = picture_lines (axes_of n) base in
    let is : (v : Verdict) → verdict_of tests ≡ v → log ≡ log_for (finding_by v lines) =
    λ v e. one-log found (record { reading = read_as n entries; reads = read l x k; is = refl }) ∙ ap (λ (u : Verdict). log_for (finding_by u lines)) e in
    record {
      refused = λ r e. is _ e;
      numbers = λ r e. number_of (refused-by (length entries) n base r e);
      made = λ e. is _ e;
      no-refusal = λ e r s. lines-differ (axes_of n) base r (sym (is _ e) ∙ s);
      only = number-only (verdict_of tests) (is _ refl) (λ r e. number_of (refused-by (length entries) n base r e)) (lines-differ (axes_of n) base);
    }

-- and of the empty text
pub none_found : {t : List ℕ} (v : Reading) → Reads t v → empty_for (finding_of v) ≡ true → length t ≡ 0
none_found empty x e = had x
none_found (not_read r) x e = absurd (false≢true e)
none_found (read_as n entries) x e = absurd (false≢true (sym (never n entries) ∙ e))
  where
    never : (n : Numbers) (entries : List Entry) → empty_for (finding_of (read_as n entries)) ≡ false
    never n entries = by (verdict_of (program_tests n (length entries) (base_of entries)))
      where
        by : (v : Verdict) → empty_for (finding_by v (picture_lines (axes_of n) (base_of entries))) ≡ false
        by Accepted = refl
        by (Refused r) = refl

-- refusal 9 is never that of a text of no bytes
pub nine-found : {t : List ℕ} (v : Reading) {r : Refusal} → Reads t v → verdict_for (finding_of v) ≡ Refused r → r.number ≡ 9 → 0 < length t
nine-found empty x e n = absurd (let z : ◌≡◌ {A = ℕ} 0 1 = cc in omega arith)
nine-found (not_read q) {r} x e n = let z : q ≡ r = cc in had x (ap (λ (s : Refusal). s.number) z ∙ n)
nine-found (read_as m entries) x e n = has-bytes (had x).text

no_length : (t : List ℕ) → length t ≡ 0 → t ≡ []
no_length [] e = refl
no_length (c ∷ t) e = absurd (omega (arith, e))

pub demand2-empty : Demand2Empty
demand2-empty =
    record {
      log = λ log found. one-log found (record { reading = empty; reads = no_bytes refl; is = refl });
      no-refusal = empty-differs;
      alone = λ t found. no_length t (none_found found.reading found.reads ((said-by-log found).no-picture.1 refl));
    }

-- demand 2 of texts, entire
pub demand2 : Demand2Entire
demand2 = record { text = demand2-text; log = demand2-log; empty = demand2-empty }
