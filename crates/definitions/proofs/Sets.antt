-- A set of blocks by its bits (specs/Inheriting): a bit is its block's, and the count of ones is the number of blocks. Assumes nothing.
use Prim.Native.Nat.{ℕ, zero, suc, ◌+◌, ◌-◌, ◌*◌, ◌/◌, ◌%◌, ◌^◌, ◌≤◌, ◌<◌}
use mathlib.Core.Path.{◌≡◌, refl, sym, ap, ◌∙◌}
use mathlib.Core.Logic.{⊎_elim}
use mathlib.Core.Bool.{Bool, true, false}
use mathlib.Core.List.{List}
use native.Mathlib.Nat.{add-mul-div_right, add-mul-mod_self_right, mul-le-mul_right, mul_assoc, pow-suc, eq-or-lt_of_le, le_of_suc-le-suc, not-suc-le-zero}
use native.Mathlib.Omega.{arith}
use lib.Count.{ones, ones_in, ones_cat}
use lib.Dec.{eqb}
use lib.IntN.{ℤ}
use lib.Pow.{pow_pos, pow-add, high}
use Rattle.definitions.specs.declared.Axes.{Axes}
use Rattle.definitions.specs.Basics.{pick, how_many, set_of}
use Rattle.definitions.specs.Inheriting.{reads_intra, blocks_reading_intra, marked, intra_set}

-- one block more
more : (n : ℕ) (f : ℕ → Bool) → set_of (suc n) f ≡ pick (f n) 1 0 * 2 ^ n + set_of n f
unfolding set_of pick
more n f = by (f n)
  where
    by : (t : Bool) → set_of n f + pick t (2 ^ n) 0 ≡ pick t 1 0 * 2 ^ n + set_of n f
    by true = omega arith
    by false = omega arith

at_most_one : (t : Bool) → pick t 1 0 ≤ 1
unfolding pick
at_most_one true = omega arith
at_most_one false = omega arith

pub set_below : (n : ℕ) (f : ℕ → Bool) → set_of n f < 2 ^ n
unfolding set_of
set_below zero f = omega arith
set_below (suc n) f = omega (arith, more n f, set_below n f, pow-suc 2 n, mul-le-mul_right (2 ^ n) (at_most_one (f n)))

-- a bit is its block's
marks : (t : Bool) → eqb (pick t 1 0 % 2) 1 ≡ t
unfolding pick
marks true = refl
marks false = refl

pub bit_is : (n : ℕ) (f : ℕ → Bool) (i : ℕ) → i < n → marked (set_of n f) i ≡ f i
bit_is zero f i h = absurd (not-suc-le-zero h)
bit_is (suc n) f i h =
    ⊎_elim
    (λ e. ap (λ (k : ℕ). marked (set_of (suc n) f) k) e ∙ (last ∙ ap f (sym e)))
    (λ l. ap (λ (x : ℕ). eqb (x % 2) 1) (ap (λ (x : ℕ). x / 2 ^ i) (more n f)) ∙ (ap (λ (x : ℕ). eqb x 1) (below l) ∙ bit_is n f i l))
    (eq-or-lt_of_le (le_of_suc-le-suc h))
  where
    last : marked (set_of (suc n) f) n ≡ f n
    last =
        ap (λ (x : ℕ). eqb (x / 2 ^ n % 2) 1) (more n f)
        ∙ (ap (λ (x : ℕ). eqb (x % 2) 1) (high (pick (f n) 1 0) n (set_below n f)) ∙ marks (f n))

    below : i < n → (pick (f n) 1 0 * 2 ^ n + set_of n f) / 2 ^ i % 2 ≡ set_of n f / 2 ^ i % 2
    below l =
        let d = n - suc i in
        let p : ℕ = pick (f n) 1 0 in
        let e : suc d + i ≡ n = omega arith in
        let w : 2 ^ n ≡ 2 ^ d * 2 * 2 ^ i = ap (λ (k : ℕ). 2 ^ k) (sym e) ∙ (pow-add 2 (suc d) i ∙ ap (λ (x : ℕ). x * 2 ^ i) (pow-suc 2 d)) in
        let r : p * 2 ^ n + set_of n f ≡ set_of n f + p * (2 ^ d * 2) * 2 ^ i = ap (λ (x : ℕ). p * x + set_of n f) w ∙ (ap (λ (x : ℕ). x + set_of n f) (sym (mul_assoc p (2 ^ d * 2) (2 ^ i))) ∙ omega arith) in
        let q : set_of n f / 2 ^ i + p * (2 ^ d * 2) ≡ set_of n f / 2 ^ i + p * 2 ^ d * 2 = ap (λ (x : ℕ). set_of n f / 2 ^ i + x) (sym (mul_assoc p (2 ^ d) 2)) in
        ap (λ (x : ℕ). x / 2 ^ i % 2) r
        ∙ (ap (λ (x : ℕ). x % 2) (add-mul-div_right (set_of n f) (p * (2 ^ d * 2)) (pow_pos i) ∙ q) ∙ add-mul-mod_self_right (set_of n f / 2 ^ i) (p * 2 ^ d) 2)

-- ones of it is the number of blocks
ones-one : (t : Bool) → ones (pick t 1 0) ≡ pick t 1 0
unfolding pick ones ones_in
ones-one true = refl
ones-one false = refl

pub ones-of : (n : ℕ) (f : ℕ → Bool) → ones (set_of n f) ≡ how_many n f
unfolding set_of how_many ones ones_in
ones-of zero f = refl
ones-of (suc n) f =
    let e = ap ones (more n f) ∙ ones_cat n (pick (f n) 1 0) (set_of n f) (set_below n f) in
    omega (arith, e, ones-one (f n), ones-of n f)

-- so of a macroblock's
module _ (g : Axes) (base : List ℤ) (column row : ℕ) where
  pub intra-count : ones (intra_set g base column row) ≡ blocks_reading_intra g base column row
  unfolding intra_set blocks_reading_intra
  intra-count = ones-of 16 (reads_intra g base column row)

  pub intra-bit : (i : ℕ) → i < 16 → marked (intra_set g base column row) i ≡ reads_intra g base column row i
  unfolding intra_set
  intra-bit i h = bit_is 16 (reads_intra g base column row) i h
