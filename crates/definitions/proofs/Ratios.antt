-- 003's special tables (3.2.3) for ratios 2 and 3/2, and ratio 1, where its pair differs from the formula's, as laws of the formula. Assumes nothing.
-- Windows are on multiples of 16: P − o = 16·x, where x is the macroblock's column (row) in the window, and so c = 16·x + 8.
use Prim.Native.Nat.{ℕ, ◌+◌, ◌*◌, ◌/◌, ◌%◌, ◌-◌, ◌≤◌, ◌<◌}
use mathlib.Core.Path.{◌≡◌, refl, ap, ◌∙◌}
use mathlib.Core.Bool.{Bool, true, false, not, ◌&&◌}
use native.Mathlib.Nat.{div-eq_of_lt-le, le-div_iff_mul-le, div-lt_iff_lt-mul, mul-le-mul_right}
use native.Mathlib.Omega.{arith}
use lib.Dec.{leb}
use lib.IntN.{ℤ, pos, nat_abs, sub_ℕ, ◌-ℤ◌}
use lib.Signed.{lt_z}
use borrow.Author.Tests.{eq-eqb, ne_eqb}
use Rattle.definitions.specs.declared.Axis.{Axis}
use Rattle.definitions.specs.Basics.{pick, minus}
use Rattle.definitions.specs.Geometry.{offset_of, c_of, z_of, k_of, p_of, d1_of, d2_of, rounded_of, even, m_of, n_of, f_of, two_of}
use Rattle.definitions.proofs.Differences.{sub-shift}
use Rattle.definitions.proofs.Positions.{m-even, n-even, m-odd, n-odd}

pub c-aligned : (a : Axis) (p x : ℕ) → pos p -ℤ offset_of a ≡ pos (16 * x) → c_of a p ≡ 16 * x + 8
c-aligned a p x e = ap (λ (z : ℤ). nat_abs z + 8) e

-- M, N, F, and whether two columns are read
pub record Gives (b s c : ℕ) (m n : ℤ) (f : ℕ) (two : Bool) : Type 0 where
  pub border : m_of b s c ≡ m
  pub border8 : n_of b s c ≡ n
  pub first : f_of b s c ≡ f
  pub columns : two_of b s c ≡ two

-- ---- Eight base samples are g whole enhancement samples: p(j) = g·j, and k is how many times g goes into c, with u left and v to the next.
place : (b s g j : ℕ) → 0 < b → 8 * s ≡ g * b → p_of b s j ≡ g * j
place b s g j hb e =
    let m : j * (8 * s) ≡ j * (g * b) = ap (λ (x : ℕ). j * x) e in
    div-eq_of_lt-le b (omega arith) (omega arith)

module _ (b s g c k u v : ℕ) (hb : 0 < b) (e : 8 * s ≡ g * b) (hu : c ≡ g * k + u) (hv : c + v ≡ g * (k + 1)) (v_low : 0 < v) where
  k-is : k_of b s c ≡ k
  k-is =
      let hg : 1 ≤ g = omega arith in
      let hs : 0 < s = omega (arith, mul-le-mul_right b hg) in
      let m : k * (8 * s) ≡ k * (g * b) = ap (λ (x : ℕ). k * x) e in
      let low : g * k ≤ c = omega arith in
      let high : c < g * (k + 1) = omega arith in
      let z-low : 8 * k ≤ z_of b s c = (le-div_iff_mul-le hs).1 (omega (arith, mul-le-mul_right b low)) in
      let z-high : z_of b s c < 8 * (k + 1) = (div-lt_iff_lt-mul hs).1 (omega (arith, mul-le-mul_right b high)) in
      omega arith

  d1-is : d1_of b s c ≡ sub_ℕ 0 u
  d1-is = ap (λ (x : ℕ). sub_ℕ (p_of b s x) c) k-is ∙ (ap (λ (x : ℕ). sub_ℕ x c) (place b s g k hb e) ∙ sub-shift (g * k) c 0 u (omega arith))

  d2-is : d2_of b s c ≡ sub_ℕ v 0
  d2-is = ap (λ (x : ℕ). sub_ℕ (p_of b s (x + 1)) c) k-is ∙ (ap (λ (x : ℕ). sub_ℕ x c) (place b s g (k + 1) hb e) ∙ sub-shift (g * (k + 1)) c v 0 (omega arith))

  even-gives : k % 2 ≡ 0 → (f : ℕ) → pick (lt_z (minus 8) (rounded_of (sub_ℕ 0 u))) (k / 2 - 1) (k / 2) ≡ f
      → Gives b s c (rounded_of (sub_ℕ 0 u)) (rounded_of (sub_ℕ v 0)) f (not (leb 8 (nat_abs (rounded_of (sub_ℕ 0 u)))))
  unfolding f_of two_of
  even-gives h f e-f =
      let even-k : even (k_of b s c) ≡ true = ap even k-is ∙ eq-eqb (k % 2) 0 h in
      let m : m_of b s c ≡ rounded_of (sub_ℕ 0 u) = m-even b s c even-k ∙ ap rounded_of d1-is in
      record {
        border = m;
        border8 = n-even b s c even-k ∙ ap rounded_of d2-is;
        first = (λ i. pick (even-k i && lt_z (minus 8) (m i)) (k-is i / 2 - 1) (k-is i / 2)) ∙ e-f;
        columns = ap (λ (z : ℤ). not (leb 8 (nat_abs z))) m;
      }

  odd-gives : k % 2 ≡ 1 → (f : ℕ) → k / 2 ≡ f → Gives b s c (rounded_of (sub_ℕ v 0)) (rounded_of (sub_ℕ 0 u)) f (not (leb 8 (nat_abs (rounded_of (sub_ℕ v 0)))))
  unfolding f_of two_of pick
  odd-gives h f e-f =
      let odd-k : even (k_of b s c) ≡ false = ap even k-is ∙ ne_eqb (k % 2) 0 (λ z. omega arith) in
      let m : m_of b s c ≡ rounded_of (sub_ℕ v 0) = m-odd b s c odd-k ∙ ap rounded_of d2-is in
      record {
        border = m;
        border8 = n-odd b s c odd-k ∙ ap rounded_of d1-is;
        first = (λ i. pick (odd-k i && lt_z (minus 8) (m i)) (k-is i / 2 - 1) (k-is i / 2)) ∙ e-f;
        columns = ap (λ (z : ℤ). not (leb 8 (nat_abs z))) m;
      }

-- ---- ratio 2, Table 1
pub ratio-2-even : (b s x : ℕ) → 0 < b → s ≡ 2 * b → x % 2 ≡ 0 → Gives b s (16 * x + 8) (minus 8) (pos 8) (x / 2) false
unfolding pick
ratio-2-even b s x hb e h =
    even-gives b s 16 (16 * x + 8) x 8 8 hb (omega arith) (omega arith) (omega arith) (omega arith) h (x / 2) refl

pub ratio-2-odd : (b s x : ℕ) → 0 < b → s ≡ 2 * b → x % 2 ≡ 1 → Gives b s (16 * x + 8) (pos 8) (minus 8) (x / 2) false
ratio-2-odd b s x hb e h =
    odd-gives b s 16 (16 * x + 8) x 8 8 hb (omega arith) (omega arith) (omega arith) (omega arith) h (x / 2) refl

-- ---- ratio 3/2, Table 2
pub ratio-3/2-0 : (b s x : ℕ) → 0 < b → 2 * s ≡ 3 * b → x % 3 ≡ 0 → Gives b s (16 * x + 8) (minus 8) (pos 4) (2 * (x / 3)) false
unfolding pick
ratio-3/2-0 b s x hb e h =
    even-gives b s 12 (16 * x + 8) (4 * (x / 3)) 8 4 hb (omega arith) (omega arith) (omega arith) (omega arith) (omega arith) (2 * (x / 3)) (omega arith)

pub ratio-3/2-1 : (b s x : ℕ) → 0 < b → 2 * s ≡ 3 * b → x % 3 ≡ 1 → Gives b s (16 * x + 8) (pos 0) (pos 12) (2 * (x / 3)) true
unfolding pick
ratio-3/2-1 b s x hb e h =
    even-gives b s 12 (16 * x + 8) (4 * (x / 3) + 2) 0 12 hb (omega arith) (omega arith) (omega arith) (omega arith) (omega arith) (2 * (x / 3)) (omega arith)

pub ratio-3/2-2 : (b s x : ℕ) → 0 < b → 2 * s ≡ 3 * b → x % 3 ≡ 2 → Gives b s (16 * x + 8) (pos 8) (minus 4) (2 * (x / 3) + 1) false
ratio-3/2-2 b s x hb e h =
    odd-gives b s 12 (16 * x + 8) (4 * (x / 3) + 3) 4 8 hb (omega arith) (omega arith) (omega arith) (omega arith) (omega arith) (2 * (x / 3) + 1) (omega arith)

-- ---- ratio 1: the formula gives (8, 0), where 003 prints (−8, 0)
pub ratio-1 : (b s x : ℕ) → 0 < b → s ≡ b → Gives b s (16 * x + 8) (pos 8) (pos 0) x false
ratio-1 b s x hb e =
    odd-gives b s 8 (16 * x + 8) (2 * x + 1) 0 8 hb (omega arith) (omega arith) (omega arith) (omega arith) (omega arith) x (omega arith)
