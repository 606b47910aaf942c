-- A scale in two parts is the scale, and its parts fit sixteen bits. Assumes nothing.
use Prim.Native.Nat.{ℕ, suc, ◌+◌, ◌*◌, ◌-◌, ◌/◌, ◌≤◌}
use mathlib.Core.Path.{◌≡◌, ap, ◌∙◌}
use native.Mathlib.Omega.{arith}
use lib.IntN.{ℤ, pos, sub_ℕ, ◌+ℤ◌, ◌-ℤ◌, ◌*ℤ◌}
use mir.Facts.{sfits_widen, to_z-of_z, to_z_pos}
use mir.Syntax.{w16, w32}
use mir.Val.{SFits, of_z, to_z}
use Rattle.definitions.proofs.Differences.{pos-minus, sub_cases, sub-pos}
use Rattle.motion.specs.declared.Scale.{Scale}
use Rattle.motion.specs.Scales.{number_of, scale_in, scale_most}

pub number_is : (n : ℕ) → number_of (scale_in n) ≡ pos n
number_is n =
    let w = (n + 32768) / 65536 in
    sub_cases (λ z. pos (w * 65536) +ℤ z ≡ pos n) n (65536 * w)
    (λ l. sub-pos (w * 65536) (suc (65536 * w - suc n)) (omega arith) ∙ ap pos (let e : w * 65536 - suc (65536 * w - suc n) ≡ n = omega arith in e))
    (λ l. ap pos (let e : w * 65536 + (n - 65536 * w) ≡ n = omega arith in e))

pub part-fits : (n : ℕ) → SFits w16 (sub_ℕ n (65536 * ((n + 32768) / 65536)))
part-fits n = sub_cases (SFits w16) n (65536 * ((n + 32768) / 65536)) (λ l. record { sfits = omega arith }) (λ l. record { sfits = omega arith })

-- the parts of n, as they are computed: each step fits
module _ (n : ℕ) (high : n ≤ scale_most) where
  whole : ℕ
  whole = (n + 32768) / 65536

  whole-high : whole ≤ 2
  unfolding whole
  whole-high = omega arith

  product_is : pos 65536 *ℤ to_z w32 whole ≡ pos (65536 * whole)
  product_is = let h = whole-high in ap (λ (z : ℤ). pos 65536 *ℤ z) (to_z_pos w32 {n = whole} (omega arith))

  pub product-fits : SFits w32 (pos 65536 *ℤ to_z w32 ((n + 32768) / 65536))
  unfolding whole
  product-fits = rw product_is (let h = whole-high in record { sfits = omega arith })

  difference-is : to_z w32 n -ℤ to_z w32 (of_z w32 (pos 65536 *ℤ to_z w32 whole)) ≡ sub_ℕ n (65536 * whole)
  unfolding whole
  difference-is =
      let a : to_z w32 n ≡ pos n = to_z_pos w32 {n = n} (omega arith) in
      let b : to_z w32 (of_z w32 (pos 65536 *ℤ to_z w32 whole)) ≡ pos (65536 * whole) = to_z-of_z product-fits ∙ product_is in
      (λ i. a i -ℤ b i) ∙ pos-minus n (65536 * whole)

  pub difference-fits : SFits w32 (to_z w32 n -ℤ to_z w32 (of_z w32 (pos 65536 *ℤ to_z w32 ((n + 32768) / 65536))))
  unfolding whole
  difference-fits = rw difference-is (sfits_widen tt (part-fits n))

  back : to_z w32 (of_z w32 (to_z w32 n -ℤ to_z w32 (of_z w32 (pos 65536 *ℤ to_z w32 whole)))) ≡ sub_ℕ n (65536 * whole)
  unfolding whole
  back = to_z-of_z difference-fits ∙ difference-is

  pub part-back : SFits w16 (to_z w32 (of_z w32 (to_z w32 n -ℤ to_z w32 (of_z w32 (pos 65536 *ℤ to_z w32 ((n + 32768) / 65536))))))
  unfolding whole
  part-back = rw back (part-fits n)

  pub made : (w : ℕ) (p : ℤ) → w ≡ (n + 32768) / 65536
      → p ≡ to_z w32 (of_z w32 (to_z w32 n -ℤ to_z w32 (of_z w32 (pos 65536 *ℤ to_z w32 ((n + 32768) / 65536)))))
      → ◌≡◌ {A = Scale} (record { whole = to_z w16 w; part = to_z w16 (of_z w16 p) }) (scale_in n)
  unfolding whole
  made w p e f =
      let h = whole-high in
      let a : to_z w16 w ≡ pos whole = ap (to_z w16) e ∙ to_z_pos w16 {n = whole} (omega arith) in
      let b : to_z w16 (of_z w16 p) ≡ sub_ℕ n (65536 * whole) = ap (λ (z : ℤ). to_z w16 (of_z w16 z)) (f ∙ back) ∙ to_z-of_z (part-fits n) in
      λ i. record { whole = a i; part = b i }
