-- Records that are well formed, from an address on, leave the verdict to those after them. Assumes nothing.
use Prim.Native.Nat.{ℕ, zero, suc, ◌+◌, ◌-◌, ◌<◌, ◌≤◌}
use mathlib.Core.Path.{◌≡◌, refl, sym, ap, ◌∙◌, subst}
use mathlib.Core.Logic.{⊎_elim}
use mathlib.Core.Bool.{true}
use mathlib.Core.List.{List}
use native.Mathlib.Nat.{eq-or-lt_of_le}
use native.Mathlib.Omega.{arith}
use lib.IntN.{ℤ}
use borrow.Author.Tests.{eqb-true}
use Rattle.definitions.specs.Replies.{Verdict}
use Rattle.definitions.specs.Record.{record_at, well_formed}
use Rattle.records.proofs.Verdicts.{verdict, verdict-more}

-- what holds at from .. a−1, and at a
pub one_more : (P : ℕ → Type 0) (from a : ℕ) → ((k : ℕ) → from ≤ k → k < a → P k) → P a → (k : ℕ) → from ≤ k → k < a + 1 → P k
one_more P from a before here k low high = ⊎_elim (λ e. subst P (sym e) here) (λ h. before k low h) (eq-or-lt_of_le (let l : k ≤ a = omega arith in l))

module _ (limit : ℕ) (base : List ℤ) (to : ℕ) where
  passed : (n from : ℕ) → from + n ≤ to → ((k : ℕ) → from ≤ k → k < from + n → well_formed limit (record_at base k) ≡ true) → verdict limit base (from + n) to ≡ verdict limit base from to
  passed zero from h formed = let e : from + zero ≡ from = omega arith in ap (λ (a : ℕ). verdict limit base a to) e
  passed (suc n) from h formed =
      let e : from + suc n ≡ from + n + 1 = omega arith in
      ap (λ (a : ℕ). verdict limit base a to) e
      ∙ (sym (verdict-more limit base (from + n) to (omega arith) (record_at base (from + n)) refl (eqb-true _ 0 (formed (from + n) (omega arith) (omega arith))))
      ∙ passed n from (omega arith) (λ k l u. formed k l (omega arith)))

  pub verdict-from :
      (from a : ℕ) → from ≤ a → a ≤ to → ((k : ℕ) → from ≤ k → k < a → well_formed limit (record_at base k) ≡ true) → verdict limit base a to ≡ verdict limit base from to
  verdict-from from a h l formed =
      let e : from + (a - from) ≡ a = omega arith in
      ap (λ (n : ℕ). verdict limit base n to) (sym e) ∙ passed (a - from) from (omega arith) (λ k low high. formed k low (omega arith))

  -- what is found from there on, for a limit by its value, is what is found of all
  pub searched :
      (from a : ℕ) {n : ℕ} {v : Verdict} → v ≡ verdict n base a to → n ≡ limit → from ≤ a → a ≤ to →
      ((k : ℕ) → from ≤ k → k < a → well_formed limit (record_at base k) ≡ true) → v ≡ verdict limit base from to
  searched from a e same h l formed = e ∙ (ap (λ (n : ℕ). verdict n base a to) same ∙ verdict-from from a h l formed)
