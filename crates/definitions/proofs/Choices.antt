-- Laws of the tests and of the lists made by an index (specs/Tests), and of Boolean and, or. Assumes nothing.
use Prim.Native.Nat.{ℕ, zero, suc, ◌<◌}
use mathlib.Core.Path.{◌≡◌, refl, sym, ap, ◌∙◌}
use mathlib.Core.Bool.{Bool, true, false, ◌&&◌, ◌||◌}
use mathlib.Core.List.Memᴰ
use mathlib.Core.List.{List, [], ◌∷◌, ◌++◌, Memᴰ}
use mathlib.Core.Logic.{◌⊎◌, inl, inr, ⊎_elim}
use native.Mathlib.Nat.{eq-or-lt_of_le, le_of_suc-le-suc, not-suc-le-zero}
use native.Mathlib.Omega.{arith}
use lib.IntN.{ℤ, pos, negsuc}
use lib.ListN.{length, get_or, length-append}
use borrow.Author.Tests.{eqb-true, eq-eqb}
use Rattle.definitions.specs.Basics.{pick, eq_z, all_below, all_of, up_to, four}

-- ---- pick
pub yes : {A : Type 0} {t : Bool} (a b : A) → t ≡ true → pick t a b ≡ a
unfolding pick
yes a b e = ap (λ (s : Bool). pick s a b) e

pub no : {A : Type 0} {t : Bool} (a b : A) → t ≡ false → pick t a b ≡ b
unfolding pick
no a b e = ap (λ (s : Bool). pick s a b) e

-- what holds of both, each where its test holds, holds of the one picked
pub pick-cases : {A : Type 0} (P : A → Type 0) (t : Bool) (a b : A) → (t ≡ true → P a) → (t ≡ false → P b) → P (pick t a b)
unfolding pick
pick-cases P true a b f g = f refl
pick-cases P false a b f g = g refl

-- ---- and, or
pub both_true : (a b : Bool) → (a && b) ≡ true → (a ≡ true) × (b ≡ true)
both_true true b e = (refl, e)
both_true false b e = (e, cc)

pub and_intro : {a b : Bool} → a ≡ true → b ≡ true → (a && b) ≡ true
and_intro p q = rw (p, q)

pub and_no : (a : Bool) {b : Bool} → b ≡ false → (a && b) ≡ false
and_no true e = e
and_no false e = refl

pub either_true : (a b : Bool) → (a || b) ≡ true → (a ≡ true) ⊎ (b ≡ true)
either_true true b e = inl refl
either_true false b e = inr e

pub or_left : {a : Bool} (b : Bool) → a ≡ true → (a || b) ≡ true
or_left b p = rw p

pub or_right : (a : Bool) {b : Bool} → b ≡ true → (a || b) ≡ true
or_right true q = refl
or_right false q = q

pub both_false : (a b : Bool) → (a || b) ≡ false → (a ≡ false) × (b ≡ false)
both_false true b e = (cc, cc)
both_false false b e = (refl, e)

-- two tests that hold in the same cases
pub both_ways : (s t : Bool) → (s ≡ true → t ≡ true) → (t ≡ true → s ≡ true) → s ≡ t
both_ways true t f g = sym (f refl)
both_ways false true f g = g refl
both_ways false false f g = refl

-- where the first test holds, the second does
unfoldable pub implies : Bool → Bool → Bool
implies true t = t
implies false t = true

pub implied : (s t : Bool) → implies s t ≡ true → s ≡ true → t ≡ true
unfolding implies
implied true t h e = h
implied false t h e = cc

-- ---- eq_z
pub eq_z-true : (a b : ℤ) → eq_z a b ≡ true → a ≡ b
eq_z-true (pos m) (pos n) e = ap pos (eqb-true m n e)
eq_z-true (pos m) (negsuc n) e = cc
eq_z-true (negsuc m) (pos n) e = cc
eq_z-true (negsuc m) (negsuc n) e = ap negsuc (eqb-true m n e)

pub eq_z-refl : (a : ℤ) → eq_z a a ≡ true
eq_z-refl (pos m) = eq-eqb m m refl
eq_z-refl (negsuc m) = eq-eqb m m refl

-- ---- all_below: the test at each index below
below_last : {k n : ℕ} → k < suc n → (k ≡ n) ⊎ (k < n)
below_last h = eq-or-lt_of_le (le_of_suc-le-suc h)

pub below_true : (n : ℕ) (f : ℕ → Bool) → all_below n f ≡ true → (k : ℕ) → k < n → f k ≡ true
unfolding all_below
below_true zero f e k h = absurd (not-suc-le-zero h)
below_true (suc n) f e k h =
    let both = both_true (all_below n f) (f n) e in
    ⊎_elim (λ i. ap f i ∙ both.1) (λ l. below_true n f both.0 k l) (below_last h)

pub below-intro : (n : ℕ) (f : ℕ → Bool) → ((k : ℕ) → k < n → f k ≡ true) → all_below n f ≡ true
unfolding all_below
below-intro zero f h = refl
below-intro (suc n) f h = and_intro (below-intro n f (λ k l. h k (omega arith))) (h n (omega arith))

-- two tests that agree at each index
pub below-same : (n : ℕ) (f g : ℕ → Bool) → ((k : ℕ) → k < n → f k ≡ g k) → all_below n f ≡ all_below n g
unfolding all_below
below-same zero f g h = refl
below-same (suc n) f g h =
    let p : all_below n f ≡ all_below n g = below-same n f g (λ k l. h k (omega arith)) in
    let q : f n ≡ g n = h n (omega arith) in
    λ i. p i && q i

-- ---- all_of: the test of each member, by membership and by index
pub of-true : {A : Type 0} (f : A → Bool) (l : List A) → all_of f l ≡ true → {x : A} → Memᴰ x l → f x ≡ true
unfolding all_of
of-true f [] e m = absurd (Memᴰ.not-nil m)
of-true f (y ∷ ys) e m =
    let both = both_true (f y) (all_of f ys) e in
    ⊎_elim (λ p. ap f p ∙ both.0) (λ t. of-true f ys both.1 t) (Memᴰ.cases_cons m)

-- ---- up_to
pub up_to-length : {A : Type 0} (n : ℕ) (f : ℕ → A) → length (up_to n f) ≡ n
unfolding up_to
up_to-length zero f = refl
up_to-length (suc n) f = omega (arith, length-append (up_to n f) (f n ∷ []), up_to-length n f)

pub up_to-same : {A : Type 0} (n : ℕ) (f g : ℕ → A) → ((k : ℕ) → k < n → f k ≡ g k) → up_to n f ≡ up_to n g
unfolding up_to
up_to-same zero f g h = refl
up_to-same (suc n) f g h =
    let p : up_to n f ≡ up_to n g = up_to-same n f g (λ k l. h k (omega arith)) in
    let q : f n ≡ g n = h n (omega arith) in
    λ i. p i ++ (q i ∷ [])

-- ---- four
-- what holds at 0, 1, 2 and 3 holds at each index below 4
pub each : (P : ℕ → Type 0) → P 0 → P 1 → P 2 → P 3 → (k : ℕ) → k < 4 → P k
each P a b c d zero h = a
each P a b c d (suc zero) h = b
each P a b c d (suc (suc zero)) h = c
each P a b c d (suc (suc (suc zero))) h = d
each P a b c d (suc (suc (suc (suc k)))) h = absurd (omega arith)

pub four-at : {A : Type 0} (f : ℕ → A) (d : A) → (k : ℕ) → k < 4 → get_or (four f) k d ≡ f k
four-at f d = each (λ k. get_or (four f) k d ≡ f k) refl refl refl refl

pub four_same : {A : Type 0} {a b c d e f g h : A} → a ≡ e → b ≡ f → c ≡ g → d ≡ h → (a ∷ b ∷ c ∷ d ∷ []) ≡ (e ∷ f ∷ g ∷ h ∷ [])
four_same p q r s = λ i. p i ∷ q i ∷ r i ∷ s i ∷ []

-- a list of four is its members
pub four_is : {A : Type 0} (l : List A) (d : A) → length l ≡ 4 → l ≡ four (λ k. get_or l k d)
four_is [] d h = absurd (omega arith)
four_is (a ∷ []) d h = absurd (omega arith)
four_is (a ∷ b ∷ []) d h = absurd (omega arith)
four_is (a ∷ b ∷ c ∷ []) d h = absurd (omega arith)
four_is (a ∷ b ∷ c ∷ e ∷ []) d h = refl
four_is (a ∷ b ∷ c ∷ e ∷ f ∷ l) d h = absurd (omega arith)
