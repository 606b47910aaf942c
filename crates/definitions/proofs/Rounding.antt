-- A scaled word: larger for a larger word, at most twice as large, and how near it is to v·S/B. Assumes nothing.
use Prim.Native.Nat.{ℕ, zero, suc, ◌+◌, ◌*◌, ◌/◌, ◌%◌, ◌-◌, ◌≤◌, ◌<◌}
use mathlib.Core.Bool.{Bool, true, false}
use mathlib.Core.Path.{◌≡◌, refl, sym, ap, subst, ◌∙◌}
use mathlib.Core.Logic.{⊎_elim}
use native.Mathlib.Nat.{eq-or-lt_of_le, div-eq_of_lt-le, div-mul-le_self, lt-div-mul-add, div-lt_iff_lt-mul, le-div_iff_mul-le, mul-le-mul_left, mul-le-mul_right, mod-add-div, mul-mod_left, le_antisymm}
use native.Mathlib.Omega.{arith}
use lib.Dec.{leb→le, le→leb, lt→ltb, ltb→lt, ltb}
use borrow.Author.Tests.{ltb-true, ltb-false}
use lib.IntN.{ℤ, pos, negsuc, neg_ℤ, nat_abs, ◌*ℤ◌, ◌+ℤ◌, ◌-ℤ◌, neg_ℤ-neg_ℤ, neg_ℤ-+ℤ, *ℤ-negsuc, *ℤ-zero}
use lib.Signed.{◌≤ℤ◌, ◌<ℤ◌, le_z_yes, lt_z_yes, <ℤ_irrefl}
use Rattle.definitions.specs.Basics.{down, minus}
use Rattle.definitions.specs.Accepted.{Sized}
use Rattle.definitions.specs.Record.{wide}
use Rattle.definitions.specs.Inheriting.{scale_of, scaled_by, scaled_word}
use Rattle.definitions.specs.Why.{error_of, NearestUp, first_rule}
use Rattle.definitions.proofs.Differences.{sub_cases, sub-neg, pos-minus}

-- ---- rounding down
minus-over : (k a : ℕ) → a < k → minus k ≤ℤ negsuc a
minus-over zero a h = absurd (omega arith)
minus-over (suc k) a h = le_z_yes (le→leb a k (omega arith))

over-minus : (k a : ℕ) → k ≤ a → negsuc a <ℤ minus k
over-minus zero a h = lt_z_yes tt
over-minus (suc k) a h = lt_z_yes (lt→ltb k a (omega arith))

floor-below : (a n q : ℕ) → n * q ≤ a → a < n * suc q → ((pos n *ℤ negsuc q) ≤ℤ negsuc a) × (negsuc a <ℤ (pos n *ℤ (negsuc q +ℤ pos 1)))
floor-below a n zero l h = (minus-over _ _ h, lt_z_yes tt)
floor-below a n (suc q) l h =
    let one : suc (suc q) - 2 ≡ q = omega arith in
    let e : negsuc (suc q) +ℤ pos 1 ≡ negsuc q = sub-neg 1 (suc (suc q)) (omega arith) ∙ ap negsuc one in
    (minus-over _ _ h, subst (λ (x : ℤ). negsuc a <ℤ (pos n *ℤ x)) (sym e) (over-minus (n * suc q) a l))

pub floor : (z : ℤ) (n : ℕ) → 0 < n → ((pos n *ℤ down z n) ≤ℤ z) × (z <ℤ (pos n *ℤ (down z n +ℤ pos 1)))
floor (pos a) n h =
    let under = div-mul-le_self a n in
    let over = lt-div-mul-add {a = a} h in
    (le_z_yes (le→leb (n * (a / n)) a (omega (arith, under))), lt_z_yes (lt→ltb a (n * (a / n + 1)) (omega (arith, over))))
floor (negsuc a) n h =
    let under = div-mul-le_self a n in
    let over = lt-div-mul-add {a = a} h in
    floor-below a n (a / n) (omega (arith, under)) (omega (arith, over))

-- ---- the scale
module _ (b s : ℕ) (z : Sized b s) where
  pub scale-low : 65536 ≤ scale_of b s
  scale-low = let hb : 0 < b = omega arith in (le-div_iff_mul-le hb).1 (omega arith)

  pub scale-high : scale_of b s ≤ 131072
  scale-high =
      let hb : 0 < b = omega arith in
      let l : scale_of b s < 131073 = (div-lt_iff_lt-mul hb).1 (omega arith) in
      omega arith

  -- it is S·65,536/B but for a half
  scale-under : scale_of b s * b ≤ s * 65536 + b / 2
  scale-under = div-mul-le_self (s * 65536 + b / 2) b

  scale-over : s * 65536 + b / 2 < scale_of b s * b + b
  scale-over = let hb : 0 < b = omega arith in lt-div-mul-add {a = s * 65536 + b / 2} hb

-- ---- the size of a scaled word, by any scale of 65,536 or more. Below 0 the half is 1 less, so that a half goes up there too.
abbrev size_by : ℕ → ℕ → ℕ → ℕ
size_by half scale n = (n * scale + half) / 65536

abbrev pub size_of : ℕ → ℕ → ℕ → ℕ → ℕ
size_of half b s n = size_by half (scale_of b s) n

neg-plus : (k h : ℕ) → h < k → neg_ℤ (pos k) +ℤ pos h ≡ negsuc (k - suc h)
neg-plus zero h l = absurd (omega arith)
neg-plus (suc k) h l = sub-neg h (suc k) l

below_by : (scale n : ℕ) → 65536 ≤ scale → scaled_by scale (negsuc n) ≡ minus (size_by 32767 scale (suc n))
below_by scale n low =
    let k = suc n * scale in
    let one : 1 ≤ suc n = omega arith in
    let far : 65536 ≤ k = omega (arith, mul-le-mul_right scale one) in
    let q : suc ((k - 32769) / 65536) ≡ (k + 32767) / 65536 = omega arith in
    ap (λ (x : ℤ). down x 65536) (neg-plus k 32768 (omega arith)) ∙ ap minus q

pub below : (b s n : ℕ) → Sized b s → scaled_word b s (negsuc n) ≡ minus (size_of 32767 b s (suc n))
below b s n z = below_by (scale_of b s) n (scale-low b s z)

module _ (half scale : ℕ) (low : 65536 ≤ scale) where
  size-rises : (m n : ℕ) → m < n → size_by half scale m < size_by half scale n
  size-rises m n h =
      let hq : 0 < 65536 = omega arith in
      let near = div-mul-le_self (m * scale + half) 65536 in
      (le-div_iff_mul-le hq).1 (omega (arith, near, mul-le-mul_right scale h))

  size-positive : (n : ℕ) → 0 < size_by half scale (suc n)
  size-positive n = omega (arith, size-rises 0 (suc n) (omega arith))

size-high : (half scale : ℕ) → scale ≤ 131072 → half < 65536 → (n : ℕ) → size_by half scale n ≤ 2 * n
size-high half scale high h n =
    let hq : 0 < 65536 = omega arith in
    let l : size_by half scale n < 2 * n + 1 = (div-lt_iff_lt-mul hq).1 (omega (arith, mul-le-mul_left n high)) in
    omega arith

-- ---- a larger word becomes a larger one
minus-falls : (m n : ℕ) → m < n → minus n <ℤ minus m
minus-falls zero zero h = absurd (omega arith)
minus-falls zero (suc n) h = lt_z_yes tt
minus-falls (suc m) zero h = absurd (omega arith)
minus-falls (suc m) (suc n) h = lt_z_yes (lt→ltb m n (omega arith))

minus-under : (m n : ℕ) → 0 < m → minus m <ℤ pos n
minus-under zero n h = absurd (omega arith)
minus-under (suc m) n h = lt_z_yes tt

rising-by : (scale : ℕ) (v w : ℤ) → 65536 ≤ scale → v <ℤ w → scaled_by scale v <ℤ scaled_by scale w
rising-by k (pos m) (pos n) z l = lt_z_yes (lt→ltb _ _ (size-rises 32768 k z m n (ltb→lt m n l.lt)))
rising-by k (pos m) (negsuc n) z l = absurd l.lt
rising-by k (negsuc m) (pos n) z l = rw (below_by k m z) (minus-under (size_by 32767 k (suc m)) (size_by 32768 k n) (size-positive 32767 k z m))
rising-by k (negsuc m) (negsuc n) z l =
    rw (below_by k m z, below_by k n z) (minus-falls (size_by 32767 k (suc n)) (size_by 32767 k (suc m)) (size-rises 32767 k z (suc n) (suc m) (omega (arith, ltb→lt n m l.lt))))

pub rising : (b s : ℕ) (v w : ℤ) → Sized b s → v <ℤ w → scaled_word b s v <ℤ scaled_word b s w
rising b s v w z l = rising-by (scale_of b s) v w (scale-low b s z) l

-- ---- the error of two that are not below 0
apart_by : (P : ℕ → Type 0) (m n : ℕ) → (m < n → P (n - m)) → (n ≤ m → P (m - n)) → P (nat_abs (pos m -ℤ pos n))
apart_by P m n f g =
    subst (λ (z : ℤ). P (nat_abs z)) (sym (pos-minus m n)) (sub_cases (λ z. P (nat_abs z)) m n (λ l. let e : n - m ≡ suc (n - suc m) = omega arith in subst P e (f l)) g)

-- A size m for n, times B, is S·n but for B·(65,536 + n) over 2·65,536. (Both times 2·65,536, beside twice B·scale·n.)
module _ (half b s n : ℕ) (z : Sized b s) where
  twice : ℕ
  twice = 2 * (n * scale_of b s * b)

  scale-below : twice ≤ 131072 * (s * n) + n * b
  unfolding twice
  scale-below =
      let even : 2 * (b / 2) ≡ b = omega arith in
      omega (arith, mul-le-mul_left n (scale-under b s z), ap (λ (x : ℕ). n * x) even)

  scale-above : 131072 * (s * n) ≤ twice + n * b
  unfolding twice
  scale-above =
      let even : 2 * (b / 2) ≡ b = omega arith in
      omega (arith, mul-le-mul_left n (scale-over b s z), ap (λ (x : ℕ). n * x) even)

  size_below : half ≤ 32768 → 131072 * (b * size_of half b s n) ≤ twice + 65536 * b
  unfolding twice
  size_below h = omega (arith, mul-le-mul_left b (div-mul-le_self (n * scale_of b s + half) 65536), mul-le-mul_left b h)

  size_above : 32767 ≤ half → twice ≤ 131072 * (b * size_of half b s n) + 65536 * b
  unfolding twice
  size_above h =
      let hq : 0 < 65536 = omega arith in
      omega (arith, mul-le-mul_left b (lt-div-mul-add {a = n * scale_of b s + half} hq), mul-le-mul_left b h)

  size-error : 32767 ≤ half → half ≤ 32768 → 2 * 65536 * nat_abs (pos (b * size_of half b s n) -ℤ pos (s * n)) ≤ b * (65536 + n)
  size-error h g =
      apart_by (λ d. 2 * 65536 * d ≤ b * (65536 + n)) (b * size_of half b s n) (s * n)
      (λ l. omega (arith, scale-above, size_above h))
      (λ l. omega (arith, scale-below, size_below g))

-- ---- below 0: the same with the sign turned
size-neg : (z : ℤ) → nat_abs (neg_ℤ z) ≡ nat_abs z
size-neg (pos zero) = refl
size-neg (pos (suc n)) = refl
size-neg (negsuc n) = refl

times-neg : (a z : ℤ) → a *ℤ neg_ℤ z ≡ neg_ℤ (a *ℤ z)
times-neg a (pos zero) = *ℤ-zero a ∙ ap neg_ℤ (sym (*ℤ-zero a))
times-neg a (pos (suc n)) = *ℤ-negsuc a n
times-neg a (negsuc n) = sym (ap neg_ℤ (*ℤ-negsuc a n) ∙ neg_ℤ-neg_ℤ (a *ℤ pos (suc n)))

difference-neg : (x y : ℤ) → nat_abs (neg_ℤ x -ℤ neg_ℤ y) ≡ nat_abs (x -ℤ y)
difference-neg x y = ap nat_abs (sym (neg_ℤ-+ℤ x (neg_ℤ y))) ∙ size-neg (x -ℤ y)

error-neg : (b s : ℕ) (v v' : ℤ) → error_of b s (neg_ℤ v) (neg_ℤ v') ≡ error_of b s v v'
error-neg b s v v' = (λ i. nat_abs (times-neg (pos b) v' i -ℤ times-neg (pos s) v i)) ∙ difference-neg (pos b *ℤ v') (pos s *ℤ v)

pub error : (b s : ℕ) (v : ℤ) → Sized b s → 2 * 65536 * error_of b s v (scaled_word b s v) ≤ b * (65536 + nat_abs v)
error b s (pos n) z = size-error 32768 b s n z (omega arith) (omega arith)
error b s (negsuc n) z =
    rw (below b s n z, error-neg b s (pos (suc n)) (pos (size_of 32767 b s (suc n)))) (size-error 32767 b s (suc n) z (omega arith) (omega arith))

-- ---- where S·65,536/B is whole, it is the scale
pub whole : (b s n : ℕ) → Sized b s → 2 * s ≡ n * b → s * 65536 % b ≡ 0
whole b s n z e =
    let q : s * 65536 ≡ 32768 * n * b = omega (arith, e) in
    ap (λ (x : ℕ). x % b) q ∙ mul-mod_left (32768 * n) b

module _ (b s : ℕ) (z : Sized b s) (exact : s * 65536 % b ≡ 0) where
  scale-whole : scale_of b s * b ≡ s * 65536
  scale-whole =
      let q = s * 65536 / b in
      let e : s * 65536 ≡ q * b = omega (arith, mod-add-div (s * 65536) b) in
      let d : scale_of b s ≡ q = div-eq_of_lt-le b (omega arith) (omega arith) in
      ap (λ (x : ℕ). x * b) d ∙ sym e

  -- 2·B·m against 2·S·n: a half more at most, and a half less, by the half that is added
  module _ (half n : ℕ) where
    times-n : n * (scale_of b s * b) ≡ n * (s * 65536)
    times-n = ap (λ (x : ℕ). n * x) scale-whole

    whole_below : 65536 * (b * size_of half b s n) ≤ 65536 * (s * n) + b * half
    whole_below = omega (arith, mul-le-mul_left b (div-mul-le_self (n * scale_of b s + half) 65536), times-n)

    whole_above : 65536 * (s * n) + b * half + b ≤ 65536 * (b * size_of half b s n) + 65536 * b
    whole_above =
        let hq : 0 < 65536 = omega arith in
        omega (arith, mul-le-mul_left b (lt-div-mul-add {a = n * scale_of b s + half} hq), times-n)

pub nearest : (b s : ℕ) (v : ℤ) → Sized b s → s * 65536 % b ≡ 0 → NearestUp b s v (scaled_word b s v)
nearest b s (pos n) z w =
    let m = size_of 32768 b s n in
    let under : 65536 * (b * m) ≤ 65536 * (s * n) + b * 32768 = whole_below b s z w 32768 n in
    let over : 65536 * (s * n) + b * 32768 + b ≤ 65536 * (b * m) + 65536 * b = whole_above b s z w 32768 n in
    record {
      near = apart_by (λ d. 2 * d ≤ b) (b * m) (s * n) (λ l. omega arith) (λ l. omega arith);
      half = apart_by (λ d. 2 * d ≡ b → pos (s * n) <ℤ pos (b * m)) (b * m) (s * n) (λ l e. absurd (omega arith)) (λ l e. lt_z_yes (lt→ltb (s * n) (b * m) (omega arith)));
    }
nearest b s (negsuc n) z w =
    let k = suc n in
    let m = size_of 32767 b s k in
    let under : 65536 * (b * m) ≤ 65536 * (s * k) + b * 32767 = whole_below b s z w 32767 k in
    let over : 65536 * (s * k) + b * 32767 + b ≤ 65536 * (b * m) + 65536 * b = whole_above b s z w 32767 k in
    rw (below b s n z)
    (record {
      near = rw (error-neg b s (pos k) (pos m)) (apart_by (λ d. 2 * d ≤ b) (b * m) (s * k) (λ l. omega arith) (λ l. omega arith));
      half = rw (error-neg b s (pos k) (pos m), times-neg (pos b) (pos m))
          (apart_by (λ d. 2 * d ≡ b → minus (s * k) <ℤ minus (b * m)) (b * m) (s * k) (λ l e. minus-falls (b * m) (s * k) l) (λ l e. absurd (omega arith)));
    })

-- ---- beside document 01's first rule
not-above : (m n : ℕ) → (n < m → ⊥) → m ≤ n
not-above m n f = by (ltb n m) refl
  where
    by : (t : Bool) → ltb n m ≡ t → m ≤ n
    by true l = absurd (f (ltb-true n m l))
    by false l = ltb-false n m l

module _ (half b s n : ℕ) (z : Sized b s) (h : 32767 ≤ half) (g : half ≤ 32768) where
  rule : ℕ
  rule = (n * s + b / 2) / b

  module _ (small : n < wide) where
    under-rule : size_of half b s n ≤ rule + 1
    unfolding rule
    under-rule =
        let hb : 0 < b = omega arith in
        not-above _ _ (λ l. omega (arith, mul-le-mul_left b l, lt-div-mul-add {a = n * s + b / 2} hb, scale-below half b s n z, size_below half b s n z g, mul-le-mul_right b small))

    over-rule : rule ≤ size_of half b s n + 1
    unfolding rule
    over-rule =
        not-above _ _ (λ l. omega (arith, mul-le-mul_left b l, div-mul-le_self (n * s + b / 2) b, scale-above half b s n z, size_above half b s n z h, mul-le-mul_right b small))

  -- at the wide limit it is twice the scale
  module _ (most : n ≡ wide) where
    twice-scale : size_of half b s n ≡ 2 * scale_of b s
    twice-scale = ap (size_of half b s) most ∙ (let e : (131072 * scale_of b s + half) / 65536 ≡ 2 * scale_of b s = omega arith in e)

    rule-most : rule ≡ (131072 * s + b / 2) / b
    unfolding rule
    rule-most = ap (λ (m : ℕ). (m * s + b / 2) / b) most

    under-most : size_of half b s n ≤ rule + 1
    under-most =
        let hb : 0 < b = omega arith in
        rw (twice-scale, rule-most) (not-above _ _ (λ l. omega (arith, mul-le-mul_left b l, lt-div-mul-add {a = 131072 * s + b / 2} hb, scale-under b s z)))

    over-most : rule ≤ size_of half b s n + 1
    over-most = rw (twice-scale, rule-most) (not-above _ _ (λ l. omega (arith, mul-le-mul_left b l, div-mul-le_self (131072 * s + b / 2) b, scale-over b s z)))

  beside-rule : n ≤ wide → nat_abs (pos (size_of half b s n) -ℤ pos ((n * s + b / 2) / b)) ≤ 1
  unfolding rule
  beside-rule l =
      let under = ⊎_elim under-most under-rule (eq-or-lt_of_le l) in
      let over = ⊎_elim over-most over-rule (eq-or-lt_of_le l) in
      apart_by (λ d. d ≤ 1) (size_of half b s n) ((n * s + b / 2) / b) (λ k. omega (arith, over)) (λ k. omega (arith, under))

pub first-rule : (b s : ℕ) (v : ℤ) → Sized b s → nat_abs v ≤ wide → nat_abs (scaled_word b s v -ℤ first_rule b s v) ≤ 1
first-rule b s (pos n) z h = beside-rule 32768 b s n z (omega arith) (omega arith) h
first-rule b s (negsuc n) z h =
    rw (below b s n z, difference-neg (pos (size_of 32767 b s (suc n))) (pos ((suc n * s + b / 2) / b))) (beside-rule 32767 b s (suc n) z (omega arith) (omega arith) h)

-- ---- the range: a word of −limit..limit − 1 becomes one of −2·limit..2·(limit − 1)
neg_low : (m n : ℕ) → n ≤ m → minus m ≤ℤ minus n
neg_low zero zero h = le_z_yes tt
neg_low zero (suc n) h = absurd (omega arith)
neg_low (suc m) zero h = le_z_yes tt
neg_low (suc m) (suc n) h = le_z_yes (le→leb n m (omega arith))

neg-pos : (m n : ℕ) → minus m ≤ℤ pos n
neg-pos zero n = le_z_yes (le→leb 0 n (omega arith))
neg-pos (suc m) n = le_z_yes tt

low-size : (m n : ℕ) → minus m ≤ℤ negsuc n → suc n ≤ m
low-size zero n h = absurd h.le
low-size (suc m) n h = omega (arith, leb→le n m h.le)

module _ (scale : ℕ) (low : 65536 ≤ scale) (high : scale ≤ 131072) where
  scaled-low : (m : ℕ) (v : ℤ) → minus m ≤ℤ v → minus (2 * m) ≤ℤ scaled_by scale v
  scaled-low m (pos n) h = neg-pos (2 * m) (size_by 32768 scale n)
  scaled-low m (negsuc n) h =
      rw (below_by scale n low) (neg_low (2 * m) (size_by 32767 scale (suc n)) (omega (arith, size-high 32767 scale high (omega arith) (suc n), low-size m n h)))

  scaled-high : (m : ℕ) (v : ℤ) → v ≤ℤ pos m → scaled_by scale v ≤ℤ pos (2 * m)
  scaled-high m (pos n) h = le_z_yes (le→leb (size_by 32768 scale n) (2 * m) (omega (arith, size-high 32768 scale high (omega arith) n, leb→le n m h.le)))
  scaled-high m (negsuc n) h = rw (below_by scale n low) (neg-pos (size_by 32767 scale (suc n)) (2 * m))

pub range : (b s limit : ℕ) (v : ℤ) → Sized b s → minus limit ≤ℤ v → v ≤ℤ pos (limit - 1) → (minus (2 * limit) ≤ℤ scaled_word b s v) × (scaled_word b s v ≤ℤ pos (2 * (limit - 1)))
range b s limit v z low high =
    let k = scale_of b s in
    (scaled-low k (scale-low b s z) (scale-high b s z) limit v low, scaled-high k (scale-low b s z) (scale-high b s z) (limit - 1) v high)

-- ---- two different words never scale to one
trichotomy : (P : Type 0) (v w : ℤ) → (v <ℤ w → P) → (w <ℤ v → P) → (v ≡ w → P) → P
trichotomy P (pos m) (negsuc n) f g h = g (lt_z_yes tt)
trichotomy P (negsuc m) (pos n) f g h = f (lt_z_yes tt)
trichotomy P (pos m) (pos n) f g h = by (ltb m n) (ltb n m) refl refl
  where
    by : (t u : Bool) → ltb m n ≡ t → ltb n m ≡ u → P
    by true u e k = f (lt_z_yes (lt→ltb m n (ltb-true m n e)))
    by false true e k = g (lt_z_yes (lt→ltb n m (ltb-true n m k)))
    by false false e k = h (ap pos (le_antisymm (ltb-false n m k) (ltb-false m n e)))
trichotomy P (negsuc m) (negsuc n) f g h = by (ltb m n) (ltb n m) refl refl
  where
    by : (t u : Bool) → ltb m n ≡ t → ltb n m ≡ u → P
    by true u e k = g (lt_z_yes (lt→ltb m n (ltb-true m n e)))
    by false true e k = f (lt_z_yes (lt→ltb n m (ltb-true n m k)))
    by false false e k = h (ap negsuc (le_antisymm (ltb-false n m k) (ltb-false m n e)))

pub number-apart : (scale : ℕ) (v w : ℤ) → 65536 ≤ scale → scaled_by scale v ≡ scaled_by scale w → v ≡ w
number-apart k v w z e =
    trichotomy (v ≡ w) v w
    (λ l. absurd (<ℤ_irrefl (subst (λ (x : ℤ). scaled_by k v <ℤ x) (sym e) (rising-by k v w z l))))
    (λ l. absurd (<ℤ_irrefl (subst (λ (x : ℤ). scaled_by k w <ℤ x) e (rising-by k w v z l))))
    (λ q. q)

pub word-apart : (b s : ℕ) (v w : ℤ) → Sized b s → scaled_word b s v ≡ scaled_word b s w → v ≡ w
word-apart b s v w z e = number-apart (scale_of b s) v w (scale-low b s z) e
