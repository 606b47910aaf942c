-- What the program refuses a text for that is read: its tests in their order, and what each gives; the verdict on a text says what its log says (specs/Log).
-- Assumes nothing.
use Prim.Native.Nat.{ℕ, ◌<◌}
use native.Mathlib.Nat.{mul-pos}
use mathlib.Core.Path.{◌≡◌, refl, sym, ap, subst, ◌∙◌}
use mathlib.Core.Bool.{Bool, true, false, not, false≢true}
use mathlib.Core.List.Memᴰ
use mathlib.Core.List.{List, [], ◌∷◌, Memᴰ}
use native.Mathlib.Omega.{arith}
use lib.Dec.{eqb}
use lib.IntN.{ℤ}
use lib.ListN.{length}
use borrow.Author.Tests.{eqb-true, eqb-false, eq-eqb, ne_eqb}
use Rattle.definitions.specs.declared.Numbers.{Numbers}
use Rattle.definitions.specs.declared.Refusal.{Refusal}
use Rattle.definitions.specs.Replies.{Verdict, Accepted}
use Rattle.std.specs.Prelude.{Err as Refused}
use Rattle.definitions.specs.Geometry.{axes_of}
use Rattle.definitions.specs.Record.{narrow}
use Rattle.definitions.specs.Refusals.{refusal, verdict_of, geometry_tests, geometry_verdict, record_tests, all_addresses}
use Rattle.definitions.specs.Text.{Reading, empty, not_read, read_as, base_of}
use Rattle.definitions.specs.Log.{program_tests, Finding, finds_none, refuses, finding_by, finding_of, log_for, verdict_for, empty_for, picture_lines, refused_line, LogOf, SaidByLog}
use Rattle.definitions.specs.Raster.{base_count, full_count}
use Rattle.definitions.proofs.Choices.{yes, no}
use Rattle.definitions.proofs.Verdicts.{then-verdict, refused-first, given_by, both-passed}
use Rattle.definitions.proofs.Accepted.{accepted-axes}
use Rattle.definitions.proofs.RecordLists.{records-give, member-index}
use Rattle.definitions.proofs.Lines.{lines-differ, empty-differs, made-differ}

-- ---- The tests in their order
module _ (n : Numbers) (lines : ℕ) (base : List ℤ) where
  pub numbers-wrong : (r : Refusal) → geometry_verdict n ≡ Refused r → verdict_of (program_tests n lines base) ≡ Refused r
  unfolding program_tests
  numbers-wrong r e = refused-first (geometry_tests n) _ r e

  module _ (accepted : geometry_verdict n ≡ Accepted) where
    pub count-wrong : (lines ≡ base_count (axes_of n) → ⊥) → verdict_of (program_tests n lines base) ≡ Refused (refusal 5)
    unfolding program_tests
    count-wrong d = then-verdict (geometry_tests n) _ accepted ∙ yes _ _ (ap not (ne_eqb _ _ d))

    pub count-right : lines ≡ base_count (axes_of n) → verdict_of (program_tests n lines base) ≡ verdict_of (record_tests narrow base (all_addresses (axes_of n)))
    unfolding program_tests
    count-right e = then-verdict (geometry_tests n) _ accepted ∙ no _ _ (ap not (eq-eqb _ _ e))

-- ---- What they give: 1 to 5 with place 0, or 8 with the address of a record
pub data RefusedBy (lines : ℕ) : Refusal → Type 0 where
  by_number : {k : ℕ} → Memᴰ k (1 ∷ 2 ∷ 3 ∷ 4 ∷ 5 ∷ []) → RefusedBy lines (refusal k)
  by-record : {a rule : ℕ} → a < lines → RefusedBy lines (record { number = 8; place = a; rule = rule })

same-refusal : {r s : Refusal} → ◌≡◌ {A = Verdict} (Refused r) (Refused s) → r ≡ s
same-refusal e = cc

module _ (lines : ℕ) where
  of-numbers : (n : Numbers) (r : Refusal) → geometry_verdict n ≡ Refused r → RefusedBy lines r
  unfolding geometry_tests
  of-numbers n =
      given_by (RefusedBy lines) (geometry_tests n)
      (by_number (Memᴰ.head refl), (by_number (Memᴰ.tail (Memᴰ.head refl)), (by_number (Memᴰ.tail (Memᴰ.tail (Memᴰ.head refl))), (by_number (Memᴰ.tail (Memᴰ.tail (Memᴰ.tail (Memᴰ.head refl)))), tt))))

  module _ (n : Numbers) (base : List ℤ) (r : Refusal) where
    by_count : geometry_verdict n ≡ Accepted → (b : Bool) → eqb lines (base_count (axes_of n)) ≡ b → verdict_of (program_tests n lines base) ≡ Refused r → RefusedBy lines r
    by_count a true e v =
        let same = eqb-true _ _ e in
        let records = all_addresses (axes_of n) in
        given_by (RefusedBy lines) (record_tests narrow base records) (records-give narrow (RefusedBy lines) base records (λ x m. let l = member-index (base_count (axes_of n)) x m in by-record (omega arith))) r
        (sym (count-right n lines base a same) ∙ v)
    by_count a false e v =
        let five : ◌≡◌ {A = Verdict} (Refused (refusal 5)) (Refused r) = sym (count-wrong n lines base a (eqb-false _ _ e)) ∙ v in
        subst (RefusedBy lines) (same-refusal five) (by_number (Memᴰ.tail (Memᴰ.tail (Memᴰ.tail (Memᴰ.tail (Memᴰ.head refl))))))

    by-geometry : (g : Verdict) → geometry_verdict n ≡ g → verdict_of (program_tests n lines base) ≡ Refused r → RefusedBy lines r
    by-geometry Accepted e v = by_count e (eqb lines (base_count (axes_of n))) refl v
    by-geometry (Refused s) e v =
        subst (RefusedBy lines) (same-refusal (sym (numbers-wrong n lines base s e) ∙ v)) (of-numbers n s e)

    pub refused-by : verdict_of (program_tests n lines base) ≡ Refused r → RefusedBy lines r
    refused-by = by-geometry (geometry_verdict n) refl

-- an accepted text has a picture of one macroblock or more
some-made : (n : Numbers) (lines : ℕ) (base : List ℤ) → verdict_of (program_tests n lines base) ≡ Accepted → 0 < full_count (axes_of n)
unfolding program_tests
some-made n lines base e =
    let axes = accepted-axes n (both-passed (geometry_tests n) _ e).0 in
    mul-pos (omega (arith, axes.horizontal.full-low)) (omega (arith, axes.vertical.full-low))

-- ---- The numbers of these refusals, and how large they are
pub number_of : {lines : ℕ} {r : Refusal} → RefusedBy lines r → Memᴰ r.number (1 ∷ 2 ∷ 3 ∷ 4 ∷ 5 ∷ 8 ∷ [])
number_of (by_number m) = Memᴰ.append_left (8 ∷ []) m
number_of (by-record l) = Memᴰ.tail (Memᴰ.tail (Memᴰ.tail (Memᴰ.tail (Memᴰ.tail (Memᴰ.head refl)))))

-- ---- The verdict on a text, by what is found of it
pub verdict-by : (v : Verdict) (lines : List ℕ) → verdict_for (finding_by v lines) ≡ v
verdict-by Accepted lines = refl
verdict-by (Refused r) lines = refl

abbrev SaidOf : Finding → Type 0
SaidOf f = SaidByLog (verdict_for f) (empty_for f) (log_for f)

said-refused : (q : Refusal) → SaidOf (refuses q)
said-refused q =
    record {
      refused = λ r e. ap refused_line (same-refusal e);
      accepted = λ e r s. let z : ◌≡◌ {A = ℕ} 0 1 = cc in omega arith;
      no-picture = ((λ e. absurd (false≢true e)), (λ e. absurd (empty-differs q (sym e))));
    }

-- what is accepted has a picture of one macroblock or more
said-by : (v : Verdict) (n : Numbers) (base : List ℤ) → (v ≡ Accepted → 0 < full_count (axes_of n)) → SaidOf (finding_by v (picture_lines (axes_of n) base))
said-by Accepted n base some =
    record {
      refused = λ r e. absurd (let z : ◌≡◌ {A = ℕ} 0 1 = cc in omega arith);
      accepted = λ e. lines-differ (axes_of n) base;
      no-picture = ((λ e. absurd (false≢true e)), (λ e. absurd (made-differ (axes_of n) base (some refl) e)));
    }
said-by (Refused q) n base some = said-refused q

said-none : SaidOf finds_none
said-none =
    record {
      refused = λ r e. absurd (let z : ◌≡◌ {A = ℕ} 0 1 = cc in omega arith);
      accepted = λ e. empty-differs;
      no-picture = ((λ e. refl), (λ e. refl));
    }

said : (v : Reading) → SaidOf (finding_of v)
said empty = said-none
said (not_read r) = said-refused r
said (read_as n entries) = said-by (verdict_of (program_tests n (length entries) (base_of entries))) n (base_of entries) (some-made n (length entries) (base_of entries))

pub said-by-log : {t log : List ℕ} → (found : LogOf t log) → SaidByLog (verdict_for (finding_of found.reading)) (empty_for (finding_of found.reading)) log
said-by-log found = subst (SaidByLog (verdict_for (finding_of found.reading)) (empty_for (finding_of found.reading))) (sym found.is) (said found.reading)
