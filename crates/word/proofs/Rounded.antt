-- A vector word that is scaled by the two parts of a scale, or raised so that it is not below 0: it is the scaled word, and each step fits. Assumes nothing.
use Prim.Native.Nat.{ℕ, zero, suc, ◌+◌, ◌*◌, ◌-◌, ◌/◌, ◌≤◌, ◌<◌, ◌^◌}
use mathlib.Core.Path.{◌≡◌, refl, sym, ap, subst, ◌∙◌}
use mathlib.Core.Bool.{true, true≢false}
use native.Mathlib.Nat.{mul-le-mul}
use native.Mathlib.Omega.{arith}
use lib.IntN.{ℤ, pos, negsuc, neg_ℤ, nat_abs, sub_ℕ, ◌+ℤ◌, ◌*ℤ◌, +ℤ_assoc, +ℤ_idl, +ℤ_invl, *ℤ_comm}
use lib.Signed.{le_z, nat_abs-le}
use borrow.Author.Tests.{leb-true}
use mir.Syntax.{Width, w16, w32}
use mir.Val.{SFits, hbits, of_z, to_z}
use mir.Facts.{to_z-of_z}
use Rattle.definitions.specs.Basics.{down, minus}
use Rattle.definitions.specs.Inheriting.{scaled_by}
use Rattle.definitions.specs.Record.{fits, narrow, wide}
use Rattle.definitions.proofs.Choices.{both_true}
use Rattle.definitions.proofs.Differences.{sub_cases, sub-neg, sub-pos, sub-shift}
use Rattle.motion.specs.declared.Scale.{Scale}
use Rattle.motion.specs.ByValue.{Reference}
use Rattle.motion.specs.Scales.{AcceptedScale, scale_in, scale_most, scaled_with}
use Rattle.motion.proofs.ByScales.{with_number}
use Rattle.motion.proofs.Parts.{part-fits}

-- ---- rounding down a difference, and one with c · 65,536 more
down-more : (x y c : ℕ) → down (sub_ℕ (x + 65536 * c) y) 65536 ≡ pos c +ℤ down (sub_ℕ x y) 65536
down-more x y c =
    sub_cases (λ z. down (sub_ℕ (x + 65536 * c) y) 65536 ≡ pos c +ℤ down z 65536) x y
    (λ l. sub_cases (λ z. down z 65536 ≡ sub_ℕ c (suc ((y - suc x) / 65536))) (x + 65536 * c) y
    (λ k. let e : (y - suc (x + 65536 * c)) / 65536 ≡ suc ((y - suc x) / 65536) - suc c = omega arith in ap negsuc e ∙ sym (sub-neg c (suc ((y - suc x) / 65536)) (omega arith)))
    (λ k. let e : (x + 65536 * c - y) / 65536 ≡ c - suc ((y - suc x) / 65536) = omega arith in ap pos e ∙ sym (sub-pos c (suc ((y - suc x) / 65536)) (omega arith))))
    (λ l. let e : (x + 65536 * c - y) / 65536 ≡ c + (x - y) / 65536 = omega arith in ap (λ (z : ℤ). down z 65536) (sub-pos (x + 65536 * c) y (omega arith)) ∙ ap pos e)

-- ---- a product with a difference, and h more
less_none : (x : ℕ) → sub_ℕ x 0 ≡ pos x
less_none x = let e : x - 0 ≡ x = omega arith in sub-pos x 0 (omega arith) ∙ ap pos e

neg_sum : (k h : ℕ) → neg_ℤ (pos k) +ℤ pos h ≡ sub_ℕ h k
neg_sum zero h = let e : 0 + h ≡ h = omega arith in ap pos e ∙ sym (less_none h)
neg_sum (suc k) h = refl

product-below : (a n k m h : ℕ) → m ≡ n + suc k → pos a *ℤ negsuc k +ℤ pos h ≡ sub_ℕ (a * n + h) (a * m)
product-below a n k m h e = neg_sum (a * suc k) h ∙ sub-shift h (a * suc k) (a * n + h) (a * m) (omega (arith, ap (λ (x : ℕ). a * x) e))

product-above : (a n k m h : ℕ) → n ≡ m + k → pos a *ℤ pos k +ℤ pos h ≡ sub_ℕ (a * n + h) (a * m)
product-above a n k m h e =
    sym (less_none (a * k + h)) ∙ sub-shift (a * k + h) 0 (a * n + h) (a * m) (omega (arith, ap (λ (x : ℕ). a * x) e))

product-pos : (a n m h : ℕ) → pos a *ℤ sub_ℕ n m +ℤ pos h ≡ sub_ℕ (a * n + h) (a * m)
product-pos a n m h =
    sub_cases (λ z. pos a *ℤ z +ℤ pos h ≡ sub_ℕ (a * n + h) (a * m)) n m
    (λ l. product-below a n (m - suc n) m h (omega arith))
    (λ l. product-above a n (n - m) m h (omega arith))

-- with the sign turned, of the difference turned
product-neg : (a n m h : ℕ) → negsuc a *ℤ sub_ℕ n m +ℤ pos h ≡ sub_ℕ (suc a * m + h) (suc a * n)
product-neg a n m h =
    sub_cases (λ z. negsuc a *ℤ z +ℤ pos h ≡ sub_ℕ (suc a * m + h) (suc a * n)) n m
    (λ l. product-above (suc a) m (suc (m - suc n)) n h (omega arith))
    (λ l. let k = n - m in
    let e : n ≡ m + k = omega arith in
    neg_sum (suc a * k) h ∙ sub-shift h (suc a * k) (suc a * m + h) (suc a * n) (omega (arith, ap (λ (x : ℕ). suc a * x) e)))

-- ---- by a number as by its parts, w · 65,536 and the rest
two-parts : (n w : ℕ) (v : ℤ) → scaled_by n v ≡ pos w *ℤ v +ℤ down (v *ℤ sub_ℕ n (65536 * w) +ℤ pos 32768) 65536
two-parts n w (pos a) =
    let x = a * n + 32768 in
    sym (ap (λ (z : ℤ). pos (w * a) +ℤ down z 65536) (product-pos a n (65536 * w) 32768)
    ∙ (sym (down-more x (a * (65536 * w)) (w * a))
    ∙ ap (λ (z : ℤ). down z 65536) (sub-shift (x + 65536 * (w * a)) (a * (65536 * w)) x 0 (omega arith) ∙ less_none x)))
two-parts n w (negsuc a) =
    let c = w * suc a in
    let y = suc a * n in
    let d = down (sub_ℕ 32768 y) 65536 in
    let more : suc a * (65536 * w) + 32768 ≡ 32768 + 65536 * c = omega arith in
    sym (ap (λ (z : ℤ). neg_ℤ (pos c) +ℤ down z 65536) (product-neg a n (65536 * w) 32768)
    ∙ (ap (λ (x : ℕ). neg_ℤ (pos c) +ℤ down (sub_ℕ x y) 65536) more
    ∙ (ap (λ (z : ℤ). neg_ℤ (pos c) +ℤ z) (down-more 32768 y c)
    ∙ (sym (+ℤ_assoc (neg_ℤ (pos c)) (pos c) d)
    ∙ (ap (λ (z : ℤ). z +ℤ d) (+ℤ_invl (pos c))
    ∙ (+ℤ_idl d ∙ ap (λ (z : ℤ). down z 65536) (sym (neg_sum y 32768))))))))

-- ---- sizes
size-neg : (n : ℕ) → nat_abs (neg_ℤ (pos n)) ≡ n
size-neg zero = refl
size-neg (suc n) = refl

size-product : (a b : ℤ) → nat_abs (a *ℤ b) ≡ nat_abs a * nat_abs b
size-product (pos a) (pos b) = refl
size-product (pos a) (negsuc b) = size-neg (a * suc b)
size-product (negsuc a) (pos b) = size-neg (suc a * b)
size-product (negsuc a) (negsuc b) = refl

size-sum : (a b : ℤ) → nat_abs (a +ℤ b) ≤ nat_abs a + nat_abs b
size-sum (pos a) (pos b) = omega arith
size-sum (pos a) (negsuc b) = sub_cases (λ z. nat_abs z ≤ a + suc b) a (suc b) (λ l. omega arith) (λ l. omega arith)
size-sum (negsuc a) (pos b) = sub_cases (λ z. nat_abs z ≤ suc a + b) b (suc a) (λ l. omega arith) (λ l. omega arith)
size-sum (negsuc a) (negsuc b) = omega arith

size-down : (z : ℤ) → nat_abs (down z 65536) ≤ nat_abs z / 65536 + 1
size-down (pos n) = omega arith
size-down (negsuc n) = omega arith

pub by_size : (w : Width) (z : ℤ) → nat_abs z < 2 ^ hbits w → SFits w z
by_size w (pos n) h = record { sfits = h }
by_size w (negsuc n) h = record { sfits = omega arith }

pub size_word : (limit : ℕ) (v : ℤ) → fits limit v ≡ true → nat_abs v ≤ limit
size_word limit (pos n) e = let l = leb-true n (limit - 1) (both_true (le_z (minus limit) (pos n)) (le_z (pos n) (pos (limit - 1))) e).1 in omega arith
size_word zero (negsuc n) e = absurd (true≢false (sym e))
size_word (suc l) (negsuc n) e = let h = leb-true n l (both_true (le_z (minus (suc l)) (negsuc n)) (le_z (negsuc n) (pos (suc l - 1))) e).0 in omega arith

-- ---- with the limit more, a word is not below 0
pub record Raised (limit : ℕ) (v : ℤ) : Type 0 where
  pub up : ℕ
  pub sum : v +ℤ pos limit ≡ pos up
  pub is : v ≡ sub_ℕ up limit
  pub most : up ≤ 2 * limit

pub raised : (limit : ℕ) (v : ℤ) → fits limit v ≡ true → Raised limit v
raised limit (pos n) e =
    let l : n ≤ limit = size_word limit (pos n) e in
    let back : n + limit - limit ≡ n = omega arith in
    record { up = n + limit; sum = refl; is = sym (sub-pos (n + limit) limit (omega arith) ∙ ap pos back); most = omega arith }
raised limit (negsuc n) e =
    let l : suc n ≤ limit = size_word limit (negsuc n) e in
    let back : limit - suc (limit - suc n) ≡ n = omega arith in
    record { up = limit - suc n; sum = sub-pos limit (suc n) l; is = sym (sub-neg (limit - suc n) limit (omega arith) ∙ ap negsuc back); most = omega arith }

-- and if the limit is k · 65,536, what it adds to the scaled word is a whole number
down-less : (x c : ℕ) → down (sub_ℕ x (65536 * c)) 65536 ≡ sub_ℕ (x / 65536) c
down-less x c =
    sub_cases (λ z. down z 65536 ≡ sub_ℕ (x / 65536) c) x (65536 * c)
    (λ l. let e : (65536 * c - suc x) / 65536 ≡ c - suc (x / 65536) = omega arith in ap negsuc e ∙ sym (sub-neg (x / 65536) c (omega arith)))
    (λ l. let e : (x - 65536 * c) / 65536 ≡ x / 65536 - c = omega arith in ap pos e ∙ sym (sub-pos (x / 65536) c (omega arith)))

pub by-raised : (k n : ℕ) (v : ℤ) (r : Raised (65536 * k) v) → sub_ℕ ((r.up * n + 32768) / 65536) (k * n) ≡ scaled_by n v
by-raised k n v r =
    let u = r.up in
    let a : n * u + 32768 ≡ u * n + 32768 = omega arith in
    let b : n * (65536 * k) ≡ 65536 * (k * n) = omega arith in
    sym (ap (scaled_by n) r.is
    ∙ (ap (λ (z : ℤ). down (z +ℤ pos 32768) 65536) (*ℤ_comm (sub_ℕ u (65536 * k)) (pos n))
    ∙ (ap (λ (z : ℤ). down z 65536) (product-pos n u (65536 * k) 32768 ∙ (λ i. sub_ℕ (a i) (b i)))
    ∙ down-less (u * n + 32768) (k * n))))

-- ---- what is computed on the way
pub record Fitting (s : Scale) (v : ℤ) : Type 0 where
  pub word : SFits w16 v
  pub whole : SFits w16 s.whole
  pub part : SFits w16 s.part
  pub upper : SFits w16 (s.whole *ℤ v)
  pub product : SFits w32 (v *ℤ s.part)
  pub sum : SFits w32 (v *ℤ s.part +ℤ pos 32768)
  pub lower : SFits w16 (down (v *ℤ s.part +ℤ pos 32768) 65536)
  pub fits : SFits w16 (s.whole *ℤ v +ℤ down (v *ℤ s.part +ℤ pos 32768) 65536)
  pub is : s.whole *ℤ v +ℤ down (v *ℤ s.part +ℤ pos 32768) 65536 ≡ scaled_with s v

module _ (n : ℕ) (high : n ≤ scale_most) (v : ℤ) (small : nat_abs v ≤ narrow) where
  whole : ℕ
  whole = (n + 32768) / 65536

  part : ℤ
  part = sub_ℕ n (65536 * whole)

  upper-size : nat_abs (pos whole *ℤ v) ≤ 16384
  unfolding whole
  upper-size = let h : whole ≤ 2 = omega arith in omega (arith, size-product (pos whole) v, mul-le-mul h small)

  product-size : nat_abs (v *ℤ part) ≤ 2 ^ 28
  unfolding whole part
  product-size = omega (arith, size-product v part, mul-le-mul small (nat_abs-le part (part-fits n).sfits))

  sum-size : nat_abs (v *ℤ part +ℤ pos 32768) ≤ 2 ^ 28 + 32768
  sum-size = omega (arith, product-size, size-sum (v *ℤ part) (pos 32768))

  lower-size : nat_abs (down (v *ℤ part +ℤ pos 32768) 65536) ≤ 4097
  lower-size = omega (arith, sum-size, size-down (v *ℤ part +ℤ pos 32768))

  in_parts : Fitting (scale_in n) v
  unfolding whole part
  in_parts = record {
    word = by_size w16 v (omega arith);
    whole = record { sfits = omega arith };
    part = part-fits n;
    upper = by_size w16 (pos whole *ℤ v) (omega (arith, upper-size));
    product = by_size w32 (v *ℤ part) (omega (arith, product-size));
    sum = by_size w32 (v *ℤ part +ℤ pos 32768) (omega (arith, sum-size));
    lower = by_size w16 (down (v *ℤ part +ℤ pos 32768) 65536) (omega (arith, lower-size));
    fits = by_size w16 (pos whole *ℤ v +ℤ down (v *ℤ part +ℤ pos 32768) 65536)
        (omega (arith, upper-size, lower-size, size-sum (pos whole *ℤ v) (down (v *ℤ part +ℤ pos 32768) 65536)));
    is = sym (two-parts n whole v) ∙ sym (with_number n v);
  }

pub fitting : (s : Scale) (v : ℤ) → AcceptedScale s → fits narrow v ≡ true → Fitting s v
fitting s v a e = subst (λ (t : Scale). Fitting t v) (sym a.parts) (in_parts a.number a.high v (size_word narrow v e))

-- ---- handed to a function that scales it, of either width,
module _ (limit : ℕ) (within : limit ≤ wide) (v : ℤ) (e : fits limit v ≡ true) where
  pub word_back : to_z w32 (of_z w32 v) ≡ v
  word_back = to_z-of_z (by_size w32 v (omega (arith, within, size_word limit v e)))

  pub handed : fits limit (to_z w32 (of_z w32 v)) ≡ true
  handed = rw word_back e

-- and handed back
module _ (v : ℤ) (e : fits narrow v ≡ true) (s : Scale) (a : AcceptedScale s) (r : ℤ) (is : r ≡ scaled_with s (to_z w32 (of_z w32 v))) where
  scaled_fits : SFits w16 (scaled_with s v)
  scaled_fits = let f = fitting s v a e in subst (SFits w16) f.is f.fits

  pub back : to_z w16 (of_z w16 r) ≡ scaled_with s v
  back = ap (λ (z : ℤ). to_z w16 (of_z w16 z)) (is ∙ ap (scaled_with s) (word_back narrow (omega arith) v e)) ∙ to_z-of_z scaled_fits

-- ---- a reference
pub reference-fits : (r : ℤ) → Reference r → SFits w16 r
reference-fits (pos n) e = let l = leb-true n 31 (both_true (le_z (minus 1) (pos n)) (le_z (pos n) (pos 31)) e).1 in record { sfits = omega arith }
reference-fits (negsuc n) e = let l = leb-true n 0 (both_true (le_z (minus 1) (negsuc n)) (le_z (negsuc n) (pos 31)) e).0 in record { sfits = omega arith }
