-- Masks: the bits of a number that a mask leaves, the masks that a set of columns and a set of rows make, and the tables of sets. Of numbers alone. Assumes nothing.
use Prim.Native.Nat.{ℕ, zero, suc, ◌+◌, ◌-◌, ◌*◌, ◌/◌, ◌%◌, ◌^◌, ◌<◌, ◌≤◌, min, max}
use mathlib.Core.Path.{◌≡◌, refl, sym, ap, ap₂, ◌∙◌}
use mathlib.Core.Bool.{Bool, true, false, ◌&&◌, ◌||◌, not}
use mathlib.Core.List.{List, [], ◌∷◌}
use mathlib.Core.Logic.{⊎_elim}
use native.Mathlib.Nat.{div-div-eq-div-mul, eq-or-lt_of_le, le_of_suc-le-suc, not-suc-le-zero}
use native.Mathlib.Omega.{arith}
use lib.Arith.{bin_ind}
use lib.Bits.{bit_and, bit_or, and_step, or_step, and_shr, or_shr, and_high, and_mask, or_add_and, and_le_l, and_le_r}
use lib.Dec.{eqb, ltb}
use lib.ListN.{get_or, get_or-append}
use lib.Pow.{pow-add, pow_pos}
use lib.Seq.{get_or-append_seam}
use mir.Val.{bool_byte}
use borrow.Author.Tests.{eqb-true, eq-eqb, ltb-true, ne_eqb}
use Rattle.definitions.specs.Basics.{all_below, bit_set, pick, up_to, some_of}
use Rattle.definitions.proofs.Choices.{and_intro, below_true, both_true, both_ways, each, up_to-length}
use Rattle.gather.proofs.Sets.{bit}
use Rattle.details.specs.Bits.{as_rows, four_masked, is_own, masked}

-- a test that fails, as a number
pub bit-where-not : (on : Bool) → (bool_byte (not on) ≡ pick on 0 1) × (bool_byte (not on) ≤ 1)
unfolding pick
bit-where-not true = (refl, omega arith)
bit-where-not false = (refl, omega arith)

-- ---- What a mask of several bits leaves is what each of its bits leaves
or-odd : (a b : ℕ) → bit_or a b % 2 ≡ max (a % 2) (b % 2)
or-odd a b = omega (arith, or_step a b)

and-odd : (a b : ℕ) → bit_and a b % 2 ≡ min (a % 2) (b % 2)
and-odd a b = omega (arith, and_step a b)

min-max : (x y z : ℕ) → min x (max y z) ≡ max (min x y) (min x z)
min-max x y z = omega arith

and-or : (n a b : ℕ) → bit_and n (bit_or a b) ≡ bit_or (bit_and n a) (bit_and n b)
and-or =
    bin_ind (λ (n : ℕ). (a b : ℕ) → bit_and n (bit_or a b) ≡ bit_or (bit_and n a) (bit_and n b))
    (λ a b. refl)
    (λ n ih a b.
    and_step n (bit_or a b)
    ∙ (ap₂ (λ (x y : ℕ). bit_and (n / 2) x * 2 + min (n % 2) y) (or_shr a b 1) (or-odd a b)
    ∙ (ap₂ (λ (x y : ℕ). x * 2 + y) (ih (a / 2) (b / 2)) (min-max (n % 2) (a % 2) (b % 2))
    ∙ (sym (ap₂ (λ (x y : ℕ). bit_or x y * 2 + max (min (n % 2) (a % 2)) (min (n % 2) (b % 2))) (and_shr n a 1) (and_shr n b 1))
    ∙ (sym (ap₂ (λ (x y : ℕ). bit_or (bit_and n a / 2) (bit_and n b / 2) * 2 + max x y) (and-odd n a) (and-odd n b))
    ∙ sym (or_step (bit_and n a) (bit_and n b)))))))

-- nothing is left of two exactly when nothing is left of either
none_or : (x y : ℕ) → eqb (bit_or x y) 0 ≡ (eqb x 0 && eqb y 0)
none_or x y =
    both_ways _ _
    (λ e. let z = eqb-true (bit_or x y) 0 e in
    and_intro (eq-eqb x 0 (omega (arith, z, or_add_and x y, and_le_r x y))) (eq-eqb y 0 (omega (arith, z, or_add_and x y, and_le_l x y))))
    (λ e. let b = both_true (eqb x 0) (eqb y 0) e in
    eq-eqb (bit_or x y) 0 (omega (arith, eqb-true x 0 b.0, eqb-true y 0 b.1, or_add_and x y)))

not-and : (s t : Bool) → not (s && t) ≡ (not s || not t)
not-and true t = refl
not-and false t = refl

-- some bit of the mask is set
abbrev hit : ℕ → ℕ → Bool
hit n mask = not (eqb (bit_and n mask) 0)

hit-or : (n a b : ℕ) → hit n (bit_or a b) ≡ (hit n a || hit n b)
hit-or n a b =
    ap (λ (x : ℕ). not (eqb x 0)) (and-or n a b)
    ∙ (ap not (none_or (bit_and n a) (bit_and n b)) ∙ not-and (eqb (bit_and n a) 0) (eqb (bit_and n b) 0))

-- of a mask of one bit, that bit
and_one : (n k : ℕ) → bit_and n (2 ^ k) ≡ (n / 2 ^ k % 2) * 2 ^ k
and_one n k =
    let e : 2 ^ k ≡ 2 ^ (1 + k) - 2 ^ k = omega (arith, pow-add 2 1 k) in
    ap (bit_and n) e ∙ and_high n 1 k

odd-hit : (m w : ℕ) → m < 2 → 0 < w → not (eqb (m * w) 0) ≡ eqb m 1
odd-hit zero w l h = ap not (eq-eqb (0 * w) 0 (omega arith))
odd-hit (suc zero) w l h = ap not (ne_eqb (1 * w) 0 (λ e. omega (arith, e)))
odd-hit (suc (suc m)) w l h = absurd (omega arith)

hit-one : (n k : ℕ) → hit n (2 ^ k) ≡ bit_set n k
hit-one n k = ap (λ (x : ℕ). not (eqb x 0)) (and_one n k) ∙ odd-hit (n / 2 ^ k % 2) (2 ^ k) (omega arith) (pow_pos k)

-- of a mask of four bits, one of them
masked-hit : (t : Bool) → pick t 0 1 ≡ bit (not t)
unfolding pick
masked-hit true = refl
masked-hit false = refl

pub masked-four : (n a b c d : ℕ) → masked n (bit_or (2 ^ a) (bit_or (2 ^ b) (bit_or (2 ^ c) (2 ^ d)))) ≡ bit (some_of (bit_set n a ∷ bit_set n b ∷ bit_set n c ∷ bit_set n d ∷ []))
unfolding some_of
masked-four n a b c d =
    masked-hit (eqb (bit_and n (bit_or (2 ^ a) (bit_or (2 ^ b) (bit_or (2 ^ c) (2 ^ d))))) 0)
    ∙ ap bit
    (hit-or n (2 ^ a) (bit_or (2 ^ b) (bit_or (2 ^ c) (2 ^ d)))
    ∙ ap₂ ◌||◌ (hit-one n a)
    (hit-or n (2 ^ b) (bit_or (2 ^ c) (2 ^ d)) ∙ ap₂ ◌||◌ (hit-one n b) (hit-or n (2 ^ c) (2 ^ d) ∙ ap₂ ◌||◌ (hit-one n c) (hit-one n d))))

-- ---- Two columns times two rows: the bit of each column and row
-- where the bits stand of half i of the four that two macroblocks have along an axis
abbrev pub place : ℕ → ℕ
place i = 4 * (i / 2) + i % 2

abbrev pub pair : ℕ → ℕ → ℕ
pair p r = bit_or (2 ^ p) (2 ^ r)

abbrev pub product : ℕ → ℕ → ℕ → ℕ → ℕ
product p q r s = bit_or (2 ^ (p + 2 * r)) (bit_or (2 ^ (q + 2 * r)) (bit_or (2 ^ (p + 2 * s)) (2 ^ (q + 2 * s))))

product-test : ℕ → ℕ → ℕ → ℕ → Bool
product-test i j k l = eqb (pair (place i) (place j) * as_rows (pair (place k) (place l))) (product (place i) (place j) (place k) (place l))

all_products : all_below 4 (λ i. all_below 4 (λ j. all_below 4 (λ k. all_below 4 (λ l. product-test i j k l)))) ≡ true
unfolding all_below product-test
all_products = refl

pub mask_is : (i j k l : ℕ) → i < 4 → j < 4 → k < 4 → l < 4
    → pair (place i) (place j) * as_rows (pair (place k) (place l)) ≡ product (place i) (place j) (place k) (place l)
unfolding product-test
mask_is i j k l hi hj hk hl =
    eqb-true _ _ (below_true 4 _ (below_true 4 _ (below_true 4 _ (below_true 4 _ all_products i hi) j hj) k hk) l hl)

-- two columns are a set of six
pair-test : ℕ → ℕ → Bool
pair-test i j = ltb (pair (place i) (place j)) 64

all-pairs : all_below 4 (λ i. all_below 4 (λ j. pair-test i j)) ≡ true
unfolding all_below pair-test
all-pairs = refl

pub pair-below : (i j : ℕ) → i < 4 → j < 4 → pair (place i) (place j) < 64
unfolding pair-test
pair-below i j hi hj = ltb-true _ _ (below_true 4 _ (below_true 4 _ all-pairs i hi) j hj)

-- of one macroblock a pair is below 4, and as rows it is
pub pair-in : (i j : ℕ) → i < 2 → j < 2 → pair (place i) (place j) < 4
pair-in zero zero hi hj = omega arith
pair-in zero (suc zero) hi hj = omega arith
pair-in zero (suc (suc j)) hi hj = absurd (omega arith)
pair-in (suc zero) zero hi hj = omega arith
pair-in (suc zero) (suc zero) hi hj = omega arith
pair-in (suc zero) (suc (suc j)) hi hj = absurd (omega arith)
pair-in (suc (suc i)) j hi hj = absurd (omega arith)

pub rows_in : (c : ℕ) → c < 4 → c + c / 2 * 2 ≡ as_rows c
rows_in zero h = refl
rows_in (suc zero) h = refl
rows_in (suc (suc zero)) h = refl
rows_in (suc (suc (suc zero))) h = refl
rows_in (suc (suc (suc (suc c)))) h = absurd (omega arith)

-- ---- Tables. A list made by an index holds at each place what is made there. The code's two tables are such lists, which the check of a function that reads one computes.
listed : (n : ℕ) (f : ℕ → ℕ) (k : ℕ) → k < n → get_or (up_to n f) k 0 ≡ f k
unfolding up_to
listed zero f k h = absurd (not-suc-le-zero h)
listed (suc n) f k h =
    let long = up_to-length n f in
    ⊎_elim
    (λ e. ap (λ (i : ℕ). get_or (up_to (suc n) f) i 0) (e ∙ sym long) ∙ (get_or-append_seam (up_to n f) (f n) [] 0 ∙ ap f (sym e)))
    (λ l. get_or-append (up_to n f) (f n ∷ []) 0 k (omega (arith, l, long)) ∙ listed n f k l)
    (eq-or-lt_of_le (le_of_suc-le-suc h))

-- what block k from the first macroblock on adds to a set of columns
abbrev pub in_half : ℕ → ℕ
in_half k = 2 ^ (4 * (k / 4) + k % 4 / 2)

pub half_at : (k : ℕ) → k < 8 → get_or (up_to 8 in_half) k 0 ≡ in_half k
half_at = listed 8 in_half

-- a set of columns as rows
pub rows_at : (c : ℕ) → c < 64 → get_or (up_to 64 as_rows) c 0 ≡ as_rows c
rows_at = listed 64 as_rows

pub rows-below : (c : ℕ) → c < 64 → get_or (up_to 64 as_rows) c 0 < 2048
rows-below c h = omega (arith, rows_at c h)

-- ---- One bit of a number, as it is computed; and the four where each quadrant reads the one in its own place
odd-bit : (m : ℕ) → m < 2 → bit (eqb m 1) ≡ m
unfolding pick
odd-bit zero h = refl
odd-bit (suc zero) h = refl
odd-bit (suc (suc m)) h = absurd (omega arith)

pub one_bit : (n k : ℕ) → bit_and (n / 2 ^ k) 1 ≡ bit (bit_set n k)
one_bit n k = and_mask (n / 2 ^ k) 1 ∙ sym (odd-bit (n / 2 ^ k % 2) (omega arith))

own-test : ℕ → Bool
own-test n = eqb n (four_masked n (1 ∷ 2 ∷ []) (1 ∷ 2 ∷ []))

all_own : all_below 16 own-test ≡ true
unfolding all_below own-test pick
all_own = refl

pub detail-own : (n : ℕ) → n < 16 → (h v : List ℕ) → is_own h ≡ true → is_own v ≡ true → n ≡ four_masked n h v
unfolding own-test
detail-own n l h v p q =
    let b = both_true _ _ p in
    let d = both_true _ _ q in
    let left = sym (eqb-true (get_or h 0 0) 1 b.0) in
    let right = sym (eqb-true (get_or h 1 0) 2 b.1) in
    let upper = sym (eqb-true (get_or v 0 0) 1 d.0) in
    let lower = sym (eqb-true (get_or v 1 0) 2 d.1) in
    eqb-true _ _ (below_true 16 own-test all_own n l)
    ∙ (λ t. four_masked n (left t ∷ right t ∷ []) (upper t ∷ lower t ∷ []))

-- ---- Four numbers of four bits in one: a bit of it is one of theirs
low_bit : (x y : ℕ) → x < 16 → (e : ℕ) → e < 4 → bit_set (x + 16 * y) e ≡ bit_set x e
low_bit x y h =
    each (λ e. bit_set (x + 16 * y) e ≡ bit_set x e)
    (same 0 (omega arith)) (same 1 (omega arith)) (same 2 (omega arith)) (same 3 (omega arith))
  where
    same : (e : ℕ) → (x + 16 * y) / 2 ^ e % 2 ≡ x / 2 ^ e % 2 → bit_set (x + 16 * y) e ≡ bit_set x e
    same e q = ap (λ (m : ℕ). eqb m 1) q

high_bit : (x y : ℕ) → x < 16 → (e : ℕ) → bit_set (x + 16 * y) (4 + e) ≡ bit_set y e
high_bit x y h e =
    let n : ℕ = x + 16 * y in
    let q : n / 16 ≡ y = omega arith in
    ap (λ (m : ℕ). eqb (m % 2) 1)
    (ap (λ (m : ℕ). n / m) (pow-add 2 4 e) ∙ (sym (div-div-eq-div-mul n 16 (2 ^ e)) ∙ ap (λ (m : ℕ). m / 2 ^ e) q))

abbrev pub joined : ℕ → ℕ → ℕ → ℕ → ℕ
joined a b c d = a + 16 * b + 256 * c + 4096 * d

module _ (a b c d : ℕ) (ha : a < 16) (hb : b < 16) (hc : c < 16) where
  nested : joined a b c d ≡ a + 16 * (b + 16 * (c + 16 * d))
  nested = omega arith

  pub bit-first : (e : ℕ) → e < 4 → bit_set (joined a b c d) e ≡ bit_set a e
  bit-first e h = ap (λ (n : ℕ). bit_set n e) nested ∙ low_bit a (b + 16 * (c + 16 * d)) ha e h

  pub bit-second : (e : ℕ) → e < 4 → bit_set (joined a b c d) (4 + e) ≡ bit_set b e
  bit-second e h = ap (λ (n : ℕ). bit_set n (4 + e)) nested ∙ (high_bit a _ ha e ∙ low_bit b (c + 16 * d) hb e h)

  pub bit-third : (e : ℕ) → e < 4 → bit_set (joined a b c d) (4 + (4 + e)) ≡ bit_set c e
  bit-third e h = ap (λ (n : ℕ). bit_set n (4 + (4 + e))) nested ∙ (high_bit a _ ha (4 + e) ∙ (high_bit b _ hb e ∙ low_bit c d hc e h))

  pub bit-fourth : (e : ℕ) → bit_set (joined a b c d) (4 + (4 + (4 + e))) ≡ bit_set d e
  bit-fourth e = ap (λ (n : ℕ). bit_set n (4 + (4 + (4 + e)))) nested ∙ (high_bit a _ ha (4 + (4 + e)) ∙ (high_bit b _ hb (4 + e) ∙ high_bit c d hc e))
