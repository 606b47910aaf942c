-- Where c lies between its two positions p(k) and p(k+1), and M and N by the parity of k. Assumes nothing.
use Prim.Native.Nat.{ℕ, ◌+◌, ◌*◌, ◌/◌, ◌%◌, ◌-◌, ◌≤◌, ◌<◌}
use mathlib.Core.Path.{◌≡◌, ap, ◌∙◌}
use mathlib.Core.Bool.{true, false}
use native.Mathlib.Nat.{div-mul-le_self, lt-div-mul-add, div-le_of_le-mul, le-div_iff_mul-le, div-lt_iff_lt-mul, mul-le-mul_right, mul-le-mul, div-eq_of_lt-le, div-eq_of_lt}
use native.Mathlib.Omega.{arith}
use Rattle.definitions.specs.Accepted.{Inside}
use Rattle.definitions.specs.Geometry.{z_of, k_of, p_of, d1_of, d2_of, rounded_of, even, m_of, n_of}
use Rattle.definitions.proofs.Choices.{yes, no}

-- ---- for any sizes
pub first_below : (b s c : ℕ) → p_of b s (k_of b s c) ≤ c + 1
first_below b s c =
    let h : 8 * k_of b s c ≤ z_of b s c = omega arith in
    div-le_of_le-mul b (omega (arith, div-mul-le_self (c * b + b / 2) s, mul-le-mul_right s h))

pub second_above : (b s c : ℕ) → 0 < b → 0 < s → c + 1 ≤ p_of b s (k_of b s c + 1)
second_above b s c hb hs =
    let h : z_of b s c + 1 ≤ 8 * (k_of b s c + 1) = omega arith in
    (le-div_iff_mul-le hb).1 (omega (arith, lt-div-mul-add {a = c * b + b / 2} hs, mul-le-mul_right s h))

-- from a position to the next: eight base samples, not shrunk and at most doubled
pub step-low : (b s j : ℕ) → 0 < b → b ≤ s → p_of b s j + 8 ≤ p_of b s (j + 1)
step-low b s j hb h =
    (le-div_iff_mul-le hb).1 (omega (arith, div-mul-le_self (8 * j * s + b / 2) b))

pub step-high : (b s j : ℕ) → 0 < b → s ≤ 2 * b → p_of b s (j + 1) ≤ p_of b s j + 16
step-high b s j hb h =
    let l : p_of b s (j + 1) < p_of b s j + 17 = (div-lt_iff_lt-mul hb).1 (omega (arith, lt-div-mul-add {a = 8 * j * s + b / 2} hb)) in
    omega arith

pub k-below : (b s c : ℕ) → 0 < b → b % 8 ≡ 0 → c + 1 ≤ s → k_of b s c < b / 8
k-below b s c hb e h =
    let hs : 0 < s = omega arith in
    let l : z_of b s c < b = (div-lt_iff_lt-mul hs).1 (omega (arith, mul-le-mul_right b h)) in
    omega arith

-- the first position and the last
pub at_zero : (b s : ℕ) → 0 < b → p_of b s 0 ≡ 0
at_zero b s hb = div-eq_of_lt (omega arith)

pub at-end : (b s j : ℕ) → 0 < b → 8 * j ≡ b → p_of b s j ≡ s
at-end b s j hb e =
    let m : 8 * j * s ≡ b * s = ap (λ (x : ℕ). x * s) e in
    div-eq_of_lt-le b (omega arith) (omega arith)

-- ---- of a macroblock inside: where the two positions lie, for omega to read
pub record Near (b s c : ℕ) : Type 0 where
  pub first : p_of b s (k_of b s c) ≤ c + 1
  pub second : c + 1 ≤ p_of b s (k_of b s c + 1)
  pub low : p_of b s (k_of b s c) + 8 ≤ p_of b s (k_of b s c + 1)
  pub high : p_of b s (k_of b s c + 1) ≤ p_of b s (k_of b s c) + 16
  pub k : k_of b s c < b / 8
  pub c-top : c ≤ 8184

pub near : (b s c : ℕ) → Inside b s c → Near b s c
near b s c a =
    let hb : 0 < b = omega arith in
    record {
      first = first_below b s c;
      second = second_above b s c hb (omega arith);
      low = step-low b s _ hb a.sized.scaled-low;
      high = step-high b s _ hb a.sized.scaled-high;
      k = k-below b s c hb (omega arith) (omega arith);
      c-top = omega arith;
    }

-- the products that are made of them, bounded
pub record Room (b s c : ℕ) : Type 0 where
  pub cb : c * b ≤ 8184 * 4096
  pub k : k_of b s c < 512
  pub ks : k_of b s c * s ≤ 511 * 8192

pub room : (b s c : ℕ) → Inside b s c → Room b s c
room b s c a =
    let n = near b s c a in
    let hs : s ≤ 8192 = omega arith in
    let hl : k_of b s c ≤ 511 = omega arith in
    record { cb = mul-le-mul n.c-top a.sized.base-high; k = omega arith; ks = mul-le-mul hl hs }

-- the first position of all is at least 8 before c, the last at least 8 behind it
pub first_edge : (b s c : ℕ) → Inside b s c → k_of b s c ≡ 0 → (p_of b s (k_of b s c) ≡ 0) × (p_of b s (k_of b s c) + 8 ≤ c)
first_edge b s c a e =
    let z : p_of b s (k_of b s c) ≡ 0 = ap (p_of b s) e ∙ at_zero b s (omega arith) in
    (z, omega arith)

pub last-edge : (b s c : ℕ) → Inside b s c → k_of b s c ≡ b / 8 - 1 → (p_of b s (k_of b s c + 1) ≡ s) × (c + 8 ≤ p_of b s (k_of b s c + 1))
last-edge b s c a e =
    let z : p_of b s (k_of b s c + 1) ≡ s = at-end b s (k_of b s c + 1) (omega arith) (omega arith) in
    (z, omega arith)

-- ---- M and N by the parity of k
pub m-even : (b s c : ℕ) → even (k_of b s c) ≡ true → m_of b s c ≡ rounded_of (d1_of b s c)
unfolding m_of
m-even b s c e = yes _ _ e

pub n-even : (b s c : ℕ) → even (k_of b s c) ≡ true → n_of b s c ≡ rounded_of (d2_of b s c)
unfolding n_of
n-even b s c e = yes _ _ e

pub m-odd : (b s c : ℕ) → even (k_of b s c) ≡ false → m_of b s c ≡ rounded_of (d2_of b s c)
unfolding m_of
m-odd b s c e = no _ _ e

pub n-odd : (b s c : ℕ) → even (k_of b s c) ≡ false → n_of b s c ≡ rounded_of (d1_of b s c)
unfolding n_of
n-odd b s c e = no _ _ e
