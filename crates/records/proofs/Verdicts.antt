-- The verdict on records, an address at a time, for a limit. Assumes nothing.
use Prim.Native.Nat.{ℕ, ◌+◌, ◌<◌, ◌≤◌}
use mathlib.Core.Path.{◌≡◌, sym, ap, ◌∙◌}
use mathlib.Core.Bool.{not}
use mathlib.Core.List.{List}
use lib.Dec.{eqb}
use lib.IntN.{ℤ}
use borrow.Author.Tests.{ne_eqb}
use Rattle.definitions.specs.Replies.{Verdict, Accepted}
use Rattle.std.specs.Prelude.{Err as Refused}
use Rattle.definitions.specs.Record.{record_at, first_broken}
use Rattle.definitions.specs.Refusals.{verdict_of, record_tests}
use Rattle.definitions.proofs.Choices.{yes, no}
use Rattle.records.specs.Checking.{found_at, addresses}
use Rattle.records.proofs.Addresses.{addresses-more, addresses-end}

-- ---- The verdict on the records from an address on
module _ (limit : ℕ) (base : List ℤ) (a to : ℕ) where
  abbrev pub verdict : Verdict
  verdict = verdict_of (record_tests limit base (addresses a to))

  pub verdict-end : to ≤ a → Accepted ≡ verdict
  unfolding record_tests
  verdict-end h = sym (rw (addresses-end a to h))

  module _ (h : a < to) (r : List ℤ) (here : r ≡ record_at base a) where
    pub verdict-more : first_broken limit r ≡ 0 → verdict ≡ verdict_of (record_tests limit base (addresses (a + 1) to))
    unfolding record_tests
    verdict-more e = rw (addresses-more a to h, ← here) (no _ _ (ap (λ (n : ℕ). not (eqb n 0)) e))

    pub verdict-here : (n : ℕ) → first_broken limit r ≡ n → (n ≡ 0 → ⊥) → found_at a n ≡ verdict
    unfolding record_tests found_at
    verdict-here n e broken =
        no _ _ (ne_eqb n 0 broken)
        ∙ sym (rw (addresses-more a to h, ← here)
        (yes _ _ (ap (λ (k : ℕ). not (eqb k 0)) e ∙ ap not (ne_eqb n 0 broken))
        ∙ ap (λ (k : ℕ). Refused (record { number = 8; place = a; rule = k })) e))
