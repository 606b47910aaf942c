-- On the grid of four that D1 and D2 give, each block of a macroblock inside reads the base block under its centre, and there is only one. Assumes nothing.
use Prim.Native.Nat.{ℕ, ◌+◌, ◌*◌, ◌/◌, ◌%◌, ◌-◌, ◌≤◌, ◌<◌}
use mathlib.Core.Path.{◌≡◌, refl, sym, ap, ◌∙◌}
use mathlib.Core.Bool.{Bool, true, false, ◌&&◌}
use mathlib.Core.Logic.{⊎_elim}
use native.Mathlib.Nat.{div-eq_of_lt-le, eq-zero-or-pos, mul-le-mul_right}
use native.Mathlib.Omega.{arith}
use lib.Dec.{leb, ltb}
use lib.IntN.{ℤ, pos, nat_abs, neg_ℤ-neg_ℤ, pos-+ℤ-pos, ◌+ℤ◌, ◌-ℤ◌}
use borrow.Author.Tests.{leb-true, ltb-true}
use Rattle.definitions.specs.Accepted.{Inside}
use Rattle.definitions.specs.Basics.{pick, minus, all_below}
use Rattle.definitions.specs.Geometry.{k_of, even}
use Rattle.definitions.specs.BlockMap.{digits_of, coordinate_of}
use Rattle.definitions.specs.Why.{centre_of, width_of, middle_of, Under}
use Rattle.definitions.proofs.Choices.{implies, both_true, below_true}
use Rattle.definitions.proofs.Positions.{first_edge}
use Rattle.definitions.proofs.Map.{fours_before, fours_behind, Paired, on_pairs, on-pair, paired, d1-rounded, d2-rounded}
use Rattle.definitions.proofs.Overlap.{times, ahead, reads}

-- ---- the base block under x is a quotient, so there is only one
quotient : (w q i x : ℕ) → Under w q i x → (x - i % 2) / w ≡ q
quotient w q i x u =
    ⊎_elim
    (λ z. let h = u.even z in div-eq_of_lt-le w (omega arith) (omega arith))
    (λ p. let one : i % 2 ≡ 1 = omega arith in let h = u.odd one in div-eq_of_lt-le w (omega arith) (omega arith))
    (eq-zero-or-pos (i % 2))

-- ---- the test of a row
-- Base block 2k + p − 4 lies under the centre of block n, where D1 is −4i. (Both sides count from the start of base block 2k − 4, and are 6 more.)
under_at : ℕ → ℕ → ℕ → ℕ → Bool
under_at w i n p = leb (p * w + n % 2 + 6) (4 * w + 4 * i + 4 * n) && ltb (4 * w + 4 * i + 4 * n) ((p + 1) * w + n % 2 + 6)

lies-under : (w i n p k q m : ℕ) → under_at w i n p ≡ true → q + 4 ≡ 2 * k + p → m ≡ 2 * k * w + 4 * i → 8 ≤ m → Under w q n (centre_of m n)
unfolding under_at
lies-under w i n p k q m t e e-m l =
    let both = both_true _ _ t in
    let low : p * w + n % 2 + 6 ≤ 4 * w + 4 * i + 4 * n = leb-true _ _ both.0 in
    let high : 4 * w + 4 * i + 4 * n < (p + 1) * w + n % 2 + 6 = ltb-true _ _ both.1 in
    let starts : q * w + n % 2 ≤ centre_of m n = omega (arith, times w e) in
    let ends : centre_of m n < (q + 1) * w + n % 2 = omega (arith, times w e) in
    record { even = λ z. (omega arith, omega arith); odd = λ z. (omega arith, omega arith) }

-- each row meets it
under_row : Bool → ℕ → ℕ → Bool
under_row k-even i j = all_below 4 (λ n. under_at (2 * (i + j)) i n (ahead k-even i j n))

rows_under : (k-even : Bool) → on_pairs (under_row k-even) ≡ true
unfolding all_below implies under_at under_row pick digits_of
rows_under true = refl
rows_under false = refl

row_under : (k-even : Bool) (i j n : ℕ) → Paired i j → n < 4 → under_at (2 * (i + j)) i n (ahead k-even i j n) ≡ true
unfolding under_row
row_under k-even i j n p h = below_true 4 _ (on-pair (under_row k-even) (rows_under k-even) i j p) n h

-- ---- a macroblock inside
minus_minus : (m n : ℕ) → pos m -ℤ minus n ≡ pos (m + n)
minus_minus m n = ap (λ (z : ℤ). pos m +ℤ z) (neg_ℤ-neg_ℤ (pos n)) ∙ pos-+ℤ-pos m n

module _ (b s c : ℕ) (a : Inside b s c) where
  width_is : width_of b s c ≡ 2 * (fours_before b s c + fours_behind b s c)
  width_is =
      let i = fours_before b s c in
      let j = fours_behind b s c in
      let e : (4 * j + 4 * i) / 2 ≡ 2 * (i + j) = omega arith in
      (λ t. nat_abs (d2-rounded b s c a t -ℤ d1-rounded b s c a t) / 2) ∙ (ap (λ (z : ℤ). nat_abs z / 2) (minus_minus (4 * j) (4 * i)) ∙ e)

  middle-is : middle_of b s c ≡ 2 * k_of b s c * width_of b s c + 4 * fours_before b s c
  middle-is =
      let m = 2 * k_of b s c * width_of b s c in
      ap (λ (z : ℤ). nat_abs (pos m -ℤ z)) (d1-rounded b s c a) ∙ ap nat_abs (minus_minus m (4 * fours_before b s c))

  middle-low : 8 ≤ middle_of b s c
  middle-low =
      let p = paired b s c a in
      ⊎_elim
      (λ z. let edge = first_edge b s c a z in omega (arith, middle-is))
      (λ h. omega (arith, middle-is, width_is, mul-le-mul_right (width_of b s c) h))
      (eq-zero-or-pos (k_of b s c))

pub under : (b s c i : ℕ) → Inside b s c → i < 4 → Under (width_of b s c) (coordinate_of b s c i) i (centre_of (middle_of b s c) i)
under b s c i a h =
    let k = k_of b s c in
    let p = ahead (even k) (fours_before b s c) (fours_behind b s c) i in
    let t = ap (λ (w : ℕ). under_at w (fours_before b s c) i p) (width_is b s c a) ∙ row_under (even k) (fours_before b s c) (fours_behind b s c) i (paired b s c a) h in
    lies-under (width_of b s c) (fours_before b s c) i p k _ _ t (reads b s c i a) (middle-is b s c a) (middle-low b s c a)

pub only_under : (b s c i q : ℕ) → Inside b s c → i < 4 → Under (width_of b s c) q i (centre_of (middle_of b s c) i) → q ≡ coordinate_of b s c i
only_under b s c i q a h u = sym (quotient _ q i _ u) ∙ quotient _ (coordinate_of b s c i) i _ (under b s c i a h)

pub formula : (b s c n : ℕ) → Inside b s c → n < 4 → coordinate_of b s c n ≡ (centre_of (middle_of b s c) n - n % 2) / width_of b s c
formula b s c n a h = sym (quotient _ (coordinate_of b s c n) n _ (under b s c n a h))
