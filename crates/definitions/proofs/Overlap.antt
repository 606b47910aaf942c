-- Each block of a macroblock inside overlaps the scaled picture of the base block that it reads. Assumes nothing.
--
-- All positions are times B, so that they are whole. Base samples 8k and 8(k + 1) scale to 8kS and 8(k + 1)S, the two positions that c lies between. p(k) and
-- p(k+1) are these rounded, so each gives bounds of its own (Bounds). Base block 2k + j − 4 starts (j − 4)/2 steps of 8S behind the first position: twice its
-- start is 6 − j times the first and j − 4 times the second, so it has bounds too. Whether these suffice for the block that a row names depends only on d1,
-- d2 and the number of the block, and is computed for all of them (rows_fit).
use Prim.Native.Nat.{ℕ, zero, suc, ◌+◌, ◌*◌, ◌/◌, ◌%◌, ◌-◌, ◌≤◌, ◌<◌}
use mathlib.Core.Path.{◌≡◌, refl, sym, ap, ◌∙◌}
use mathlib.Core.Bool.{Bool, true, false, ◌&&◌}
use mathlib.Core.List.{List}
use mathlib.Core.Logic.{⊎_elim}
use native.Mathlib.Nat.{div-mul-le_self, lt-div-mul-add, mul-le-mul_right, eq_of_mul-eq-mul_right, eq-or-lt_of_le}
use native.Mathlib.Omega.{arith}
use lib.Dec.{leb}
use lib.ListN.{get_or}
use borrow.Author.Tests.{leb-true, le-leb, eqb-true, eqb-false}
use Rattle.definitions.specs.Accepted.{Inside}
use Rattle.definitions.specs.Basics.{pick, all_below}
use Rattle.definitions.specs.Geometry.{z_of, k_of, p_of, even, two_of}
use Rattle.definitions.specs.BlockMap.{digits_of, coordinate_of}
use Rattle.definitions.specs.Why.{centre_of, Overlaps}
use Rattle.definitions.proofs.Choices.{yes, both_true, and_intro, below_true}
use Rattle.definitions.proofs.Positions.{near}
use Rattle.definitions.proofs.Map.{fours_before, fours_behind, digit_at, two_at, digits-is, two_is, f-is, not_first}

pub times : (k : ℕ) {m n : ℕ} → m ≡ n → m * k ≡ n * k
times k e = ap (λ (x : ℕ). x * k) e

-- ---- the bounds
-- p(j) and p(j+1) do not both round up from a half: else 8S is a multiple of B, and so is 8jS, which is then not B/2 away from one
one_apart : (b s j : ℕ) → 0 < b → b % 2 ≡ 0 → p_of b s j * b + p_of b s (j + 1) * b < 8 * j * s + b / 2 + (8 * (j + 1) * s + b / 2)
one_apart b s j hb h₂ =
    let p = p_of b s j in
    let r = p_of b s (j + 1) in
    let low-p = div-mul-le_self (8 * j * s + b / 2) b in
    let low-r = div-mul-le_self (8 * (j + 1) * s + b / 2) b in
    let l : p * b + r * b ≤ 8 * j * s + b / 2 + (8 * (j + 1) * s + b / 2) = omega arith in
    ⊎_elim
    (λ e.
    let e-p : p * b ≡ 8 * j * s + b / 2 = omega arith in
    let e-r : r * b ≡ 8 * (j + 1) * s + b / 2 = omega arith in
    let half : b ≡ b / 2 * 2 = omega arith in
    let product : 2 * (p + j * p) * (b / 2) ≡ (2 * (j * r) + 1) * (b / 2) = omega (arith, times j e-p, times j e-r, times p half, times (j * p) half, times (j * r) half) in
    let odd : 2 * (p + j * p) ≡ 2 * (j * r) + 1 = eq_of_mul-eq-mul_right (b / 2) (omega arith) _ _ product in
    absurd (omega arith))
    (λ less. less)
    (eq-or-lt_of_le l)

-- d1 + 16 and d2
abbrev x_of : ℕ → ℕ → ℕ → ℕ
x_of b s c = p_of b s (k_of b s c) + 16 - c

abbrev y_of : ℕ → ℕ → ℕ → ℕ
y_of b s c = p_of b s (k_of b s c + 1) - c

-- x is (8kS + B/2) / B, counted from c − 16, rounded down. Before that it is below x + 1; but at 17, the last x, it is exact, for k is chosen with
-- 8kS ≤ cB + B/2.
abbrev top_of : ℕ → ℕ
top_of x = x + 1 - x / 17

-- The bounds of 8kS + B/2 and of 8(k + 1)S + B/2, and from one_apart that the low bounds are not both met, nor the first one's high with the other's low.
record Bounds (b s c k x y : ℕ) : Type 0 where
  first-low : (c + x) * b ≤ 8 * k * s + b / 2 + 16 * b
  first-high : 8 * k * s + b / 2 + 16 * b ≤ (c + top_of x) * b
  second-low : (c + y) * b ≤ 8 * (k + 1) * s + b / 2
  second-high : 8 * (k + 1) * s + b / 2 < (c + y + 1) * b
  low-low : (c + x) * b + (c + y) * b < 8 * k * s + b / 2 + 16 * b + (8 * (k + 1) * s + b / 2)
  high-low : 8 * k * s + b / 2 + 16 * b + (c + y) * b < (c + top_of x) * b + (8 * (k + 1) * s + b / 2)

bounded : (b s c k p r x y : ℕ) → p * b ≤ 8 * k * s + b / 2 → 8 * k * s + b / 2 < p * b + b → 8 * k * s ≤ c * b + b / 2 → r * b ≤ 8 * (k + 1) * s + b / 2 → 8 * (k + 1) * s + b / 2 < r * b + b → p * b + r * b < 8 * k * s + b / 2 + (8 * (k + 1) * s + b / 2) → p + 16 ≡ c + x → r ≡ c + y → x ≤ 17 → Bounds b s c k x y
bounded b s c k p r x y low-p high-p chosen low-r high-r apart x-is y-is x-high =
    ⊎_elim
    (λ e. let top : top_of x ≡ 17 = omega arith in omega (arith, times b x-is, times b y-is, times b e, times b top))
    (λ l. let top : top_of x ≡ x + 1 = omega arith in omega (arith, times b x-is, times b y-is, times b top))
    (eq-or-lt_of_le x-high)

bounds : (b s c : ℕ) → Inside b s c → Bounds b s c (k_of b s c) (x_of b s c) (y_of b s c)
bounds b s c a =
    let n = near b s c a in
    let k = k_of b s c in
    let hb : 0 < b = omega arith in
    let z : 8 * k ≤ z_of b s c = omega arith in
    bounded b s c k _ _ _ _
    (div-mul-le_self (8 * k * s + b / 2) b)
    (lt-div-mul-add {a = 8 * k * s + b / 2} hb)
    (omega (arith, div-mul-le_self (c * b + b / 2) s, mul-le-mul_right s z))
    (div-mul-le_self (8 * (k + 1) * s + b / 2) b)
    (lt-div-mul-add {a = 8 * (k + 1) * s + b / 2} hb)
    (one_apart b s k hb (omega arith))
    (omega arith)
    (omega arith)
    (omega arith)

-- ---- the start of base block 2k + j − 4, by the bounds
-- Its highest position is not behind the end of block i, its lowest not before the start. (Twice the position, from c, and 97 − 16j more. Where 6 − j or j − 4 is
-- below 0, j − 6 or 4 − j stands on the other side, with the other bound.)
abbrev highest : ℕ → ℕ → ℕ → ℕ
highest j x y = (6 - j) * top_of x + (j - 4) * (y + 1) + 16 * j

abbrev block_end : ℕ → ℕ → ℕ → ℕ → ℕ
block_end i j x y = 8 * i + 89 + (j - 6) * x + (4 - j) * y

abbrev lowest : ℕ → ℕ → ℕ → ℕ
lowest j x y = (6 - j) * x + (j - 4) * y + 16 * j

abbrev block_start : ℕ → ℕ → ℕ → ℕ → ℕ
block_start i j x y = 8 * i + 81 + (j - 6) * top_of x + (4 - j) * (y + 1)

from-2-to-8 : (P : ℕ → Type 0) → P 2 → P 3 → P 4 → P 5 → P 6 → P 7 → P 8 → (j : ℕ) → 2 ≤ j → j ≤ 8 → P j
from-2-to-8 P p2 p3 p4 p5 p6 p7 p8 zero l u = absurd (omega arith)
from-2-to-8 P p2 p3 p4 p5 p6 p7 p8 (suc zero) l u = absurd (omega arith)
from-2-to-8 P p2 p3 p4 p5 p6 p7 p8 (suc (suc zero)) l u = p2
from-2-to-8 P p2 p3 p4 p5 p6 p7 p8 (suc (suc (suc zero))) l u = p3
from-2-to-8 P p2 p3 p4 p5 p6 p7 p8 (suc (suc (suc (suc zero)))) l u = p4
from-2-to-8 P p2 p3 p4 p5 p6 p7 p8 (suc (suc (suc (suc (suc zero))))) l u = p5
from-2-to-8 P p2 p3 p4 p5 p6 p7 p8 (suc (suc (suc (suc (suc (suc zero)))))) l u = p6
from-2-to-8 P p2 p3 p4 p5 p6 p7 p8 (suc (suc (suc (suc (suc (suc (suc zero))))))) l u = p7
from-2-to-8 P p2 p3 p4 p5 p6 p7 p8 (suc (suc (suc (suc (suc (suc (suc (suc zero)))))))) l u = p8
from-2-to-8 P p2 p3 p4 p5 p6 p7 p8 (suc (suc (suc (suc (suc (suc (suc (suc (suc j))))))))) l u = absurd (omega arith)

-- (At 4 and 6 the test is between an even and an odd number, so that it is strict.)
module _ (b s c k x y i : ℕ) (hb : 0 < b) (h₂ : b % 2 ≡ 0) (n : Bounds b s c k x y) where
  starts-before : (j : ℕ) → 2 ≤ j → j ≤ 8 → highest j x y ≤ block_end i j x y → 16 * k * s + 8 * j * s + 8 * b < 2 * c * b + 8 * i * b + 32 * s
  starts-before =
      from-2-to-8 (λ j. highest j x y ≤ block_end i j x y → 16 * k * s + 8 * j * s + 8 * b < 2 * c * b + 8 * i * b + 32 * s)
      (λ t. omega (arith, mul-le-mul_right b t))
      (λ t. omega (arith, mul-le-mul_right b t))
      (λ t. let t' : 2 * top_of x + 65 ≤ 8 * i + 89 = omega arith in omega (arith, mul-le-mul_right b t'))
      (λ t. omega (arith, mul-le-mul_right b t))
      (λ t. omega (arith, mul-le-mul_right b t))
      (λ t. omega (arith, mul-le-mul_right b t))
      (λ t. omega (arith, mul-le-mul_right b t))

  starts-behind : (j : ℕ) → 2 ≤ j → j ≤ 8 → block_start i j x y ≤ lowest j x y → 2 * c * b + 8 * i * b + 32 * s < 16 * k * s + 8 * j * s + 16 * b
  starts-behind =
      from-2-to-8 (λ j. block_start i j x y ≤ lowest j x y → 2 * c * b + 8 * i * b + 32 * s < 16 * k * s + 8 * j * s + 16 * b)
      (λ t. omega (arith, mul-le-mul_right b t))
      (λ t. omega (arith, mul-le-mul_right b t))
      (λ t. let t' : 8 * i + 82 ≤ 2 * x + 64 = omega arith in omega (arith, mul-le-mul_right b t'))
      (λ t. omega (arith, mul-le-mul_right b t))
      (λ t. let t' : 8 * i + 82 ≤ 2 * y + 96 = omega arith in omega (arith, mul-le-mul_right b t'))
      (λ t. omega (arith, mul-le-mul_right b t))
      (λ t. omega (arith, mul-le-mul_right b t))

-- block 2k + j − 4 starts before block i ends, and the next one starts behind the start of block i
fitting : ℕ → ℕ → ℕ → ℕ → Bool
fitting x y i j = leb 2 j && (leb j 7 && (leb (highest j x y) (block_end i j x y) && leb (block_start i (j + 1) x y) (lowest (j + 1) x y)))

fits : (b s c k x y i j q : ℕ) → Inside b s c → Bounds b s c k x y → q + 4 ≡ 2 * k + j → fitting x y i j ≡ true → Overlaps b s q (centre_of c i)
unfolding fitting
fits b s c k x y i j q a n e t =
    let t₁ = both_true (leb 2 j) _ t in
    let t₂ = both_true (leb j 7) _ t₁.1 in
    let t₃ = both_true (leb (highest j x y) (block_end i j x y)) (leb (block_start i (j + 1) x y) (lowest (j + 1) x y)) t₂.1 in
    let j-low = leb-true 2 j t₁.0 in
    let j-high = leb-true j 7 t₂.0 in
    let before = starts-before b s c k x y i (omega arith) (omega arith) n j j-low (omega arith) (leb-true _ _ t₃.0) in
    let behind = starts-behind b s c k x y i (omega arith) (omega arith) n (j + 1) (omega arith) (omega arith) (leb-true _ _ t₃.1) in
    let centre : c + 4 * i - 6 + 6 ≡ c + 4 * i = omega arith in
    let start : c + 4 * i - 6 - 2 + 8 ≡ c + 4 * i = omega arith in
    record { starts = omega (arith, times s e, times b centre); ends = omega (arith, times s e, times b start) }

-- ---- the block that is read is 2k + ahead − 4
abbrev shift : Bool → Bool → ℕ
shift k-even two = pick k-even (pick two 0 4) 2

abbrev pub ahead : Bool → ℕ → ℕ → ℕ → ℕ
ahead k-even f g i = digit_at k-even f g i + shift k-even (two_at k-even f g)

first_block : (k : ℕ) (t u : Bool) → even k ≡ t → (u ≡ true → t ≡ true → 2 ≤ k) → 4 * pick (t && u) (k / 2 - 1) (k / 2) + 4 ≡ 2 * k + shift t u
unfolding pick
first_block k true true e h = omega (arith, h refl refl, eqb-true (k % 2) 0 e)
first_block k true false e h = omega (arith, eqb-true (k % 2) 0 e)
first_block k false u e h = omega (arith, eqb-false (k % 2) 0 e)

pub reads : (b s c i : ℕ) → Inside b s c → coordinate_of b s c i + 4 ≡ 2 * k_of b s c + ahead (even (k_of b s c)) (fours_before b s c) (fours_behind b s c) i
unfolding coordinate_of
reads b s c i a =
    let digit = ap (λ (ds : List ℕ). get_or ds i 0) (digits-is b s c a) in
    let first = first_block (k_of b s c) (even (k_of b s c)) (two_of b s c) refl (not_first b s c a) in
    let two = ap (shift (even (k_of b s c))) (two_is b s c a) in
    omega (arith, f-is b s c a)

-- ---- each row fits: the test, for all d1 and d2 with d1 ≤ 1 ≤ d2 and 8 ≤ d2 − d1 ≤ 16
fitting_row : Bool → ℕ → ℕ → Bool
fitting_row k-even x y = all_below 4 (λ i. fitting x y i (ahead k-even ((18 - x) / 4) ((y + 2) / 4) i))

rows_fit : (k-even : Bool) → all_below 18 (λ x. all_below 18 (λ y. pick (leb 1 y && (leb y x && leb x (y + 8))) (fitting_row k-even x y) true)) ≡ true
unfolding fitting fitting_row all_below pick digits_of
rows_fit true = refl
rows_fit false = refl

row_fits : (k-even : Bool) (x y i : ℕ) → x < 18 → 1 ≤ y → y ≤ x → x ≤ y + 8 → i < 4 → fitting x y i (ahead k-even ((18 - x) / 4) ((y + 2) / 4) i) ≡ true
unfolding fitting_row
row_fits k-even x y i hx h₁ h₂ h₃ hi =
    let met = and_intro (le-leb 1 y h₁) (and_intro (le-leb y x h₂) (le-leb x (y + 8) h₃)) in
    below_true 4 _ (sym (yes _ true met) ∙ below_true 18 _ (below_true 18 _ (rows_fit k-even) x hx) y (omega arith)) i hi

pub overlap : (b s c i : ℕ) → Inside b s c → i < 4 → Overlaps b s (coordinate_of b s c i) (centre_of c i)
overlap b s c i a h =
    let n = near b s c a in
    let k = k_of b s c in
    let x = x_of b s c in
    let y = y_of b s c in
    let f : fours_before b s c ≡ (18 - x) / 4 = omega arith in
    let g : fours_behind b s c ≡ (y + 2) / 4 = omega arith in
    fits b s c k x y i _ _ a (bounds b s c a) (reads b s c i a ∙ (λ t. 2 * k + ahead (even k) (f t) (g t) i)) (row_fits (even k) x y i (omega arith) (omega arith) (omega arith) (omega arith) h)
