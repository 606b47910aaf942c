-- A reference's rank: the number that is computed is it, the lower reference has the lower rank, and the rank gives the reference back. Assumes nothing.
use Rattle.std.proofs.Common.{◌≡◌, ℕ, zero, suc, ◌+◌, ◌%◌, ◌^◌, ◌<◌, ◌≤◌, Bool, true, false, T, eqb, ltb, ℤ, pos, negsuc, ◌+ℤ◌, ◌-ℤ◌, nat_abs, refl, ap, ◌∙◌, subst, arith, to_z-of_z, w32, Fits, SFits, to_z, of_z, ne_eqb, ltb-true, ltb-false, leb-true}
use Rattle.std.specs.Prelude.{min}
use Rattle.std.proofs.Math.Nat.{min-eq_left, min-eq_right}
use lib.IntN.{+ℤ-neg_ℤ_cancel}
use lib.Signed.{le_z, non_neg}
use mir.Facts.{to_z_pos}
use Rattle.definitions.specs.Basics.{pick, minus, eq_z}
use Rattle.definitions.specs.Inheriting.{lower}
use Rattle.definitions.proofs.Choices.{pick-cases, both_true}
use Rattle.motion.specs.ByValue.{Reference}
use Rattle.quadrant.specs.Merging.{rank_of, lowest_of}

-- a reference is −1 or one of 0..31
of-reference : (P : ℤ → Type 0) → P (minus 1) → ((n : ℕ) → n ≤ 31 → P (pos n)) → (r : ℤ) → Reference r → P r
of-reference P a b (pos n) e = b n (leb-true n 31 (both_true (le_z (minus 1) (pos n)) (le_z (pos n) (pos 31)) e).1)
of-reference P a b (negsuc zero) e = a
of-reference P a b (negsuc (suc n)) e = absurd (omega (arith, leb-true (suc n) 0 (both_true (le_z (minus 1) (negsuc (suc n))) (le_z (negsuc (suc n)) (pos 31)) e).0))

pub reference-fits : (r : ℤ) → Reference r → SFits w32 r
reference-fits = of-reference (SFits w32) (record { sfits = omega arith }) (λ n h. record { sfits = omega arith })

-- ---- to a rank
pub next_fits : (r : ℤ) → Reference r → SFits w32 (r +ℤ pos 1)
next_fits = of-reference (λ r. SFits w32 (r +ℤ pos 1)) (record { sfits = omega arith }) (λ n h. record { sfits = omega arith })

pub next-unsigned : (r : ℤ) → Reference r → T (non_neg (r +ℤ pos 1)) × Fits w32 (nat_abs (r +ℤ pos 1))
next-unsigned =
    of-reference (λ r. T (non_neg (r +ℤ pos 1)) × Fits w32 (nat_abs (r +ℤ pos 1))) (tt, record { fits = omega arith }) (λ n h. (tt, record { fits = omega arith }))

pub rank_is : (r : ℤ) → Reference r → (nat_abs (r +ℤ pos 1) + 4294967295) % 2 ^ 32 ≡ rank_of r
unfolding pick
rank_is = of-reference (λ r. (nat_abs (r +ℤ pos 1) + 4294967295) % 2 ^ 32 ≡ rank_of r) refl (λ n h. omega arith)

-- ---- the lower of two
lower-reference : (p q : ℤ) → Reference p → Reference q → Reference (lower p q)
unfolding lower
lower-reference p q a b =
    pick-cases Reference _ _ _ (λ _. pick-cases Reference _ _ _ (λ _. pick-cases Reference _ _ _ (λ _. b) (λ _. a)) (λ _. a)) (λ _. b)

lower-rank-is : (p q : ℤ) → Reference p → Reference q → min (rank_of p) (rank_of q) ≡ rank_of (lower p q)
unfolding pick lower
lower-rank-is p q a b =
    of-reference (λ p. min (rank_of p) (rank_of q) ≡ rank_of (lower p q))
    (of-reference (λ q. min (rank_of (minus 1)) (rank_of q) ≡ rank_of (lower (minus 1) q)) refl (λ n h. min-eq_right (omega arith)) q b)
    (λ m l. of-reference (λ q. min m (rank_of q) ≡ rank_of (lower (pos m) q)) (min-eq_left (omega arith)) (λ n h. by m n (ltb n m) refl) q b)
    p a
  where
    by : (m n : ℕ) (t : Bool) → ltb n m ≡ t → min m n ≡ rank_of (pick t (pos n) (pos m))
    by m n true e = let l : n < m = ltb-true n m e in min-eq_right (omega arith)
    by m n false e = min-eq_left (ltb-false n m e)

-- ---- the lowest of four
module _ (p q s t : ℤ) (refer : Reference p × Reference q × Reference s × Reference t) where
  pub lowest-reference : Reference (lowest_of p q s t)
  unfolding lowest_of
  lowest-reference =
      lower-reference (lower p q) (lower s t) (lower-reference p q refer.0 refer.1) (lower-reference s t refer.2 refer.3)

  pub lowest-rank : {a b c d above below least : ℕ} → a ≡ rank_of p → b ≡ rank_of q → c ≡ rank_of s → d ≡ rank_of t
      → above ≡ min a b → below ≡ min c d → least ≡ min above below → least ≡ rank_of (lowest_of p q s t)
  unfolding lowest_of
  lowest-rank ea eb ec ed x y z =
      let h = x ∙ ((λ i. min (ea i) (eb i)) ∙ lower-rank-is p q refer.0 refer.1) in
      let v = y ∙ ((λ i. min (ec i) (ed i)) ∙ lower-rank-is s t refer.2 refer.3) in
      z
      ∙ ((λ i. min (h i) (v i))
      ∙ lower-rank-is (lower p q) (lower s t) (lower-reference p q refer.0 refer.1) (lower-reference s t refer.2 refer.3))

-- ---- as they are read of their bits
abbrev read : ℤ → ℤ
read r = to_z w32 (of_z w32 r)

module _ (f : ℕ → ℤ) (refers : (k : ℕ) → k < 4 → Reference (f k)) where
  read_is : (k : ℕ) → k < 4 → read (f k) ≡ f k
  read_is k h = to_z-of_z (reference-fits (f k) (refers k h))

  read-refers : (k : ℕ) → k < 4 → Reference (read (f k))
  read-refers k h = rw (read_is k h) (refers k h)

  pub four-refer : Reference (read (f 0)) × Reference (read (f 1)) × Reference (read (f 2)) × Reference (read (f 3))
  four-refer = (read-refers 0 (omega arith), read-refers 1 (omega arith), read-refers 2 (omega arith), read-refers 3 (omega arith))

  pub four-read : (P : ℤ → ℤ → ℤ → ℤ → Type 0) → P (read (f 0)) (read (f 1)) (read (f 2)) (read (f 3)) → P (f 0) (f 1) (f 2) (f 3)
  four-read P x =
      let a = read_is 0 (omega arith) in
      let b = read_is 1 (omega arith) in
      let c = read_is 2 (omega arith) in
      let d = read_is 3 (omega arith) in
      subst (λ (t : Type 0). t) (λ i. P (a i) (b i) (c i) (d i)) x

  pub lowest-read : {r : ℤ} → r ≡ lowest_of (f 0) (f 1) (f 2) (f 3) → read r ≡ lowest_of (f 0) (f 1) (f 2) (f 3)
  lowest-read e =
      ap read e
      ∙ to_z-of_z (reference-fits _ (lowest-reference (f 0) (f 1) (f 2) (f 3) (refers 0 (omega arith), refers 1 (omega arith), refers 2 (omega arith), refers 3 (omega arith))))

-- ---- back from a rank
module _ (r : ℤ) (refers : Reference r) (k w : ℕ) (ranked : k ≡ rank_of r) (next : w ≡ (k + 1) % 2 ^ 32) where
  next-is : w ≡ nat_abs (r +ℤ pos 1)
  unfolding pick
  next-is =
      next
      ∙ (ap (λ (n : ℕ). (n + 1) % 2 ^ 32) ranked
      ∙ of-reference (λ r. (rank_of r + 1) % 2 ^ 32 ≡ nat_abs (r +ℤ pos 1)) refl (λ n h. omega arith) r refers)

  next_small : w < 2 ^ 31
  next_small = omega (arith, next-is, of-reference (λ r. nat_abs (r +ℤ pos 1) < 2 ^ 31) (omega arith) (λ n h. omega arith) r refers)

  pub next-signed : SFits w32 (pos w)
  next-signed = record { sfits = next_small }

  back : to_z w32 w -ℤ pos 1 ≡ r
  back =
      rw (to_z_pos w32 next_small, next-is)
      (of-reference (λ r. pos (nat_abs (r +ℤ pos 1)) -ℤ pos 1 ≡ r) refl (λ n h. +ℤ-neg_ℤ_cancel (pos n) (pos 1)) r refers)

  pub back_fits : SFits w32 (to_z w32 w -ℤ pos 1)
  back_fits = rw back (reference-fits r refers)

  pub back_is : to_z w32 (of_z w32 (to_z w32 w -ℤ pos 1)) ≡ r
  back_is = rw back (to_z-of_z (reference-fits r refers))

-- ---- the lowest of four, by their ranks and back
module _ (p q s t : ℤ) (refer : Reference p × Reference q × Reference s × Reference t) {a b c d above below least : ℕ}
    (ea : a ≡ rank_of (read p)) (eb : b ≡ rank_of (read q)) (ec : c ≡ rank_of (read s)) (ed : d ≡ rank_of (read t))
    (x : above ≡ min a b) (y : below ≡ min c d) (z : least ≡ min above below) where
  ranked : least ≡ rank_of (lowest_of p q s t)
  ranked =
      let back : (r : ℤ) → Reference r → rank_of (read r) ≡ rank_of r = λ r h. ap rank_of (to_z-of_z (reference-fits r h)) in
      lowest-rank p q s t refer (ea ∙ back p refer.0) (eb ∙ back q refer.1) (ec ∙ back s refer.2) (ed ∙ back t refer.3) x y z

  pub lowest-signed : SFits w32 (pos ((least + 1) % 2 ^ 32))
  lowest-signed = next-signed (lowest_of p q s t) (lowest-reference p q s t refer) least ((least + 1) % 2 ^ 32) ranked refl

  pub lowest-fits : SFits w32 (to_z w32 ((least + 1) % 2 ^ 32) -ℤ pos 1)
  lowest-fits = back_fits (lowest_of p q s t) (lowest-reference p q s t refer) least ((least + 1) % 2 ^ 32) ranked refl

  pub lowest-is : to_z w32 (of_z w32 (to_z w32 ((least + 1) % 2 ^ 32) -ℤ pos 1)) ≡ lowest_of p q s t
  lowest-is = back_is (lowest_of p q s t) (lowest-reference p q s t refer) least ((least + 1) % 2 ^ 32) ranked refl

-- ---- two references compared by their bits
pub same_bits : (p q : ℤ) → Reference p → Reference q → eqb (of_z w32 p) (of_z w32 q) ≡ eq_z p q
same_bits p q a b =
    of-reference (λ p. eqb (of_z w32 p) (of_z w32 q) ≡ eq_z p q)
    (of-reference (λ q. eqb (of_z w32 (minus 1)) (of_z w32 q) ≡ eq_z (minus 1) q) refl (λ n h. ne_eqb 4294967295 n (λ e. omega arith)) q b)
    (λ m l. of-reference (λ q. eqb m (of_z w32 q) ≡ eq_z (pos m) q) (ne_eqb m 4294967295 (λ e. omega arith)) (λ n h. refl) q b)
    p a
