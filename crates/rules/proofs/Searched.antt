-- The first broken rule by its parts, and the verdict on the records from an address on by what the search has found there. Assumes nothing.
use Prim.Native.Nat.{ℕ, zero, suc, ◌+◌, ◌<◌, ◌≤◌}
use mathlib.Core.Path.{◌≡◌, refl, sym, ap, ◌∙◌}
use mathlib.Core.Bool.{Bool, true, false, not}
use mathlib.Core.List.{List}
use native.Mathlib.Omega.{arith}
use lib.Dec.{eqb}
use lib.IntN.{ℤ}
use borrow.Author.Tests.{eq-eqb, ne_eqb}
use Rattle.std.specs.Prelude.{Option, None, Some}
use Rattle.definitions.specs.Basics.{pick, all_below}
use Rattle.definitions.specs.Record.{record_at, rule1, rule2, rule3, rule4, rule5, rule6, rule7, first_broken}
use Rattle.definitions.specs.Refusals.{verdict_of, record_tests}
use Rattle.definitions.specs.Replies.{Verdict}
use Rattle.definitions.proofs.Choices.{yes, no}
use Rattle.records.specs.Checking.{found_at, addresses}
use Rattle.records.proofs.Searches.{search-end, search-fault}
use Rattle.records.proofs.Verdicts.{verdict, verdict-here, verdict-more}
use Rattle.rules.specs.Searching.{head_broken, pieces_right}
use Rattle.rules.proofs.Parts.{same-quadrants}

-- ---- The first broken rule
head_first : (a b c d : Bool) (rest : ℕ) →
    pick a 1 (pick b 2 (pick c 3 (pick d 4 rest)))
    ≡ pick (eqb (pick a 1 (pick b 2 (pick c 3 (pick d 4 0)))) 0) rest (pick a 1 (pick b 2 (pick c 3 (pick d 4 0))))
unfolding pick
head_first true b c d rest = refl
head_first false true c d rest = refl
head_first false false true d rest = refl
head_first false false false true rest = refl
head_first false false false false rest = refl

-- by the rules before it
module _ (r : List ℤ) where
  pub head_1 : rule1 r ≡ false → head_broken r ≡ 1
  unfolding head_broken
  head_1 e = yes _ _ (ap not e)

  module _ (e1 : rule1 r ≡ true) where
    pub head_2 : rule2 r ≡ false → head_broken r ≡ 2
    unfolding head_broken
    head_2 e = no _ _ (ap not e1) ∙ yes _ _ (ap not e)

    module _ (e2 : rule2 r ≡ true) where
      pub head_3 : rule3 r ≡ false → head_broken r ≡ 3
      unfolding head_broken
      head_3 e = no _ _ (ap not e1) ∙ (no _ _ (ap not e2) ∙ yes _ _ (ap not e))

      module _ (e3 : rule3 r ≡ true) where
        pub head_4 : rule4 r ≡ false → head_broken r ≡ 4
        unfolding head_broken
        head_4 e = no _ _ (ap not e1) ∙ (no _ _ (ap not e2) ∙ (no _ _ (ap not e3) ∙ yes _ _ (ap not e)))

        pub head-none : rule4 r ≡ true → head_broken r ≡ 0
        unfolding head_broken
        head-none e = no _ _ (ap not e1) ∙ (no _ _ (ap not e2) ∙ (no _ _ (ap not e3) ∙ no _ _ (ap not e)))

-- a number of a rule, or none for 0
abbrev pub numbered : ℕ → Option ℕ
numbered n = pick (eqb n 0) None (Some n)

-- a number that is not 0
numbered-further : (n : ℕ) → (n ≡ 0 → ⊥) → numbered n ≡ Some n
numbered-further n h = no _ _ (ne_eqb n 0 h)

pub some_number : (m n : ℕ) → m ≡ n → (n ≡ 0 → ⊥) → Some n ≡ numbered m
some_number m n e h = sym (ap numbered e ∙ numbered-further n h)

pub no_number : (m : ℕ) → m ≡ 0 → ◌≡◌ {A = Option ℕ} None (numbered m)
no_number m e = sym (yes _ _ (eq-eqb m 0 e))

further : Option ℕ → ℕ
further None = 0
further (Some n) = suc n

pub number_of : (m n : ℕ) → Some n ≡ numbered m → (n ≡ m) × (0 < n)
unfolding further
number_of zero n e = let h : suc n ≡ 0 = ap further (e ∙ sym (no_number 0 refl)) in absurd (omega arith)
number_of (suc m) n e = let h : suc n ≡ suc (suc m) = ap further (e ∙ numbered-further (suc m) (λ z. omega arith)) in (omega arith, omega arith)

pub number-none : (m : ℕ) → ◌≡◌ {A = Option ℕ} None (numbered m) → m ≡ 0
unfolding further
number-none zero e = refl
number-none (suc m) e = let h : 0 ≡ suc (suc m) = ap further (e ∙ numbered-further (suc m) (λ z. omega arith)) in absurd (omega arith)

module _ (limit : ℕ) (r : List ℤ) where
  abbrev tail_broken : ℕ
  tail_broken = pick (not (rule5 limit r)) 5 (pick (not (rule6 r)) 6 (pick (not (rule7 r)) 7 0))

  by-head : first_broken limit r ≡ pick (eqb (head_broken r) 0) tail_broken (head_broken r)
  unfolding first_broken head_broken
  by-head = head_first (not (rule1 r)) (not (rule2 r)) (not (rule3 r)) (not (rule4 r)) tail_broken

  broken-head : (n : ℕ) → head_broken r ≡ n → (n ≡ 0 → ⊥) → first_broken limit r ≡ n
  broken-head n e broken = by-head ∙ (no _ _ (ne_eqb (head_broken r) 0 (λ h. broken (sym e ∙ h))) ∙ e)

  module _ (head : head_broken r ≡ 0) where
    by-tail : first_broken limit r ≡ tail_broken
    by-tail = by-head ∙ yes _ _ (eq-eqb (head_broken r) 0 head)

    broken-5 : rule5 limit r ≡ false → first_broken limit r ≡ 5
    broken-5 e = by-tail ∙ yes _ _ (ap not e)

    broken-6 : rule5 limit r ≡ true → rule6 r ≡ false → first_broken limit r ≡ 6
    broken-6 e5 e6 = by-tail ∙ (no _ _ (ap not e5) ∙ yes _ _ (ap not e6))

    broken-7 : rule5 limit r ≡ true → rule6 r ≡ true → rule7 r ≡ false → first_broken limit r ≡ 7
    broken-7 e5 e6 e7 = by-tail ∙ (no _ _ (ap not e5) ∙ (no _ _ (ap not e6) ∙ yes _ _ (ap not e7)))

    broken-none : rule5 limit r ≡ true → rule6 r ≡ true → rule7 r ≡ true → first_broken limit r ≡ 0
    broken-none e5 e6 e7 = by-tail ∙ (no _ _ (ap not e5) ∙ (no _ _ (ap not e6) ∙ no _ _ (ap not e7)))

-- ---- The verdict on the records from an address on
module _ (limit : ℕ) (base : List ℤ) (a to : ℕ) where
  -- what is found there is the verdict on all, if the records before it leave it to those from there on
  pub found_of : (from n : ℕ) {v : Verdict} → v ≡ found_at a n → found_at a n ≡ verdict limit base a to → verdict limit base a to ≡ verdict limit base from to → v ≡ verdict limit base from to
  found_of from n is found passed = is ∙ (found ∙ passed)

  module _ (h : a < to) (r : List ℤ) (here : r ≡ record_at base a) where
    pub found-head : (n : ℕ) → n ≡ head_broken r → (n ≡ 0 → ⊥) → found_at a n ≡ verdict limit base a to
    found-head n e broken = verdict-here limit base a to h r here n (broken-head limit r n (sym e) broken) broken

    module _ (head : head_broken r ≡ 0) where
      pub found-5 : rule5 limit r ≡ false → found_at a 5 ≡ verdict limit base a to
      found-5 e = verdict-here limit base a to h r here 5 (broken-5 limit r head e) (λ z. omega arith)

      module _ (right5 : rule5 limit r ≡ true) where
        pub found-6 : (q : ℕ) → q < 4 → pieces_right r q ≡ false → found_at a 6 ≡ verdict limit base a to
        found-6 q l e = verdict-here limit base a to h r here 6 (broken-6 limit r head right5 (same-quadrants r ∙ search-fault (pieces_right r) 4 q l e)) (λ z. omega arith)

        module _ (q6 : ℕ) (le6 : q6 ≤ 4) (ge6 : 4 ≤ q6) (passed6 : all_below q6 (pieces_right r) ≡ true) where
          right6 : rule6 r ≡ true
          right6 = same-quadrants r ∙ search-end (pieces_right r) 4 q6 le6 ge6 passed6

          pub found-7 : rule7 r ≡ false → found_at a 7 ≡ verdict limit base a to
          found-7 e = verdict-here limit base a to h r here 7 (broken-7 limit r head right5 right6 e) (λ z. omega arith)

          pub found-next : rule7 r ≡ true → verdict limit base a to ≡ verdict_of (record_tests limit base (addresses (a + 1) to))
          found-next e = verdict-more limit base a to h r here (broken-none limit r head right5 right6 e)
