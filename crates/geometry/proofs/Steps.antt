-- An axis step from its parts: what steps 4 and 5 and the block map make of k, D1 and D2 is what document 01 defines. Assumes nothing.
use Prim.Native.Nat.{ℕ, zero, suc, ◌+◌, ◌*◌, ◌-◌, ◌/◌, ◌≤◌}
use mathlib.Core.Path.{◌≡◌, ap, subst, ◌∙◌}
use mathlib.Core.Bool.{true, false, not, ◌&&◌}
use native.Mathlib.Omega.{arith}
use lib.Dec.{leb, lit<}
use lib.IntN.{ℤ, nat_abs}
use lib.ListN.{get_or, length}
use lib.Signed.{lt_z}
use borrow.Author.Tests.{lt-leb, ltb-true}
use Rattle.definitions.specs.Accepted.{Inside}
use Rattle.definitions.specs.BlockMap.{coordinate_of, digits_of}
use Rattle.definitions.specs.Geometry.{d1_of, d2_of, even, f_of, k_of, m_of, n_of, rounded_of, two_of}
use Rattle.definitions.specs.Basics.{four, minus, pick}
use Rattle.definitions.proofs.Choices.{both_true}
use Rattle.definitions.proofs.Map.{d1-rounded, fours_before, not_first, row_of}
use Rattle.definitions.proofs.Positions.{m-even}
use Rattle.geometry.specs.Step.{RoundedAt}

-- −n is above −8: n is below 8
above : (n : ℕ) → lt_z (minus 8) (minus n) ≡ true → leb 8 (nat_abs (minus n)) ≡ false
above zero e = lt-leb 8 0 (lit< tt)
above (suc n) e = let l = ltb-true n 7 e in lt-leb 8 (suc n) (omega arith)

module _ (b s c : ℕ) (a : Inside b s c) where
  -- k/2 − 1 is taken only where it is not below 0
  not-zero : (even (k_of b s c) && lt_z (minus 8) (m_of b s c)) ≡ true → 2 ≤ k_of b s c
  unfolding two_of
  not-zero e =
      let both = both_true (even (k_of b s c)) (lt_z (minus 8) (m_of b s c)) e in
      let m : m_of b s c ≡ minus (4 * fours_before b s c) = m-even b s c both.0 ∙ d1-rounded b s c a in
      let far = above (4 * fours_before b s c) (subst (λ (z : ℤ). lt_z (minus 8) z ≡ true) m both.1) in
      not_first b s c a (ap (λ (z : ℤ). not (leb 8 (nat_abs z))) m ∙ ap not far) both.0

  -- what step 5 and the block map ask of k, M and N
  module _ {k : ℕ} {m : ℤ} (k-is : k ≡ k_of b s c) (m-is : m ≡ m_of b s c) where
    pub columns-asked : (even k && lt_z (minus 8) m) ≡ true → 2 ≤ k
    columns-asked = rw (k-is, m-is) not-zero

    pub row-there : {n : ℤ} → n ≡ n_of b s c → length (digits_of (even k) m n) ≡ 4
    row-there n-is = rw (k-is, m-is, n-is) (row_of b s c a)

-- D1 and D2, from the distances
pub rounded-at : {b s c k : ℕ} {u1 u2 d1 d2 : ℤ} → k ≡ k_of b s c → u1 ≡ d1_of b s c → u2 ≡ d2_of b s c → d1 ≡ rounded_of u1 → d2 ≡ rounded_of u2 → RoundedAt b s c k d1 d2
rounded-at k-is u1-is u2-is d1-is d2-is = record { k-is = k-is; d1-is = d1-is ∙ ap rounded_of u1-is; d2-is = d2-is ∙ ap rounded_of u2-is }

-- M and N by the parity of k
module _ (b s c : ℕ) {k : ℕ} {d1 d2 : ℤ} (h : RoundedAt b s c k d1 d2) where
  pub border : pick (even k) d1 d2 ≡ m_of b s c
  unfolding m_of
  border = λ i. pick (even (h.k-is i)) (h.d1-is i) (h.d2-is i)

  pub border8 : pick (even k) d2 d1 ≡ n_of b s c
  unfolding n_of
  border8 = λ i. pick (even (h.k-is i)) (h.d2-is i) (h.d1-is i)

module _ (b s c : ℕ) {k : ℕ} (k-is : k ≡ k_of b s c) where
  pub first : {m : ℤ} → m ≡ m_of b s c → pick (even k && lt_z (minus 8) m) (k / 2 - 1) (k / 2) ≡ f_of b s c
  unfolding f_of
  first e = λ i. pick (even (k-is i) && lt_z (minus 8) (e i)) (k-is i / 2 - 1) (k-is i / 2)

  pub reads : {m n : ℤ} {f : ℕ} → m ≡ m_of b s c → n ≡ n_of b s c → f ≡ f_of b s c → four (λ j. 4 * f + get_or (digits_of (even k) m n) j 0) ≡ four (coordinate_of b s c)
  unfolding coordinate_of
  reads e1 e2 e3 = λ i. four (λ j. 4 * e3 i + get_or (digits_of (even (k-is i)) (e1 i) (e2 i)) j 0)

pub two : (b s c : ℕ) {m : ℤ} → m ≡ m_of b s c → not (leb 8 (nat_abs m)) ≡ two_of b s c
unfolding two_of
two b s c e = ap (λ (m : ℤ). not (leb 8 (nat_abs m))) e
