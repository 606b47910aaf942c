-- The ends of the range of vector words, as they are computed for a limit. Assumes nothing.
use Prim.Native.Nat.{ℕ, zero, suc, ◌-◌, ◌^◌, ◌<◌, ◌≤◌}
use mathlib.Core.Path.{◌≡◌, sym, ap, subst, ◌∙◌}
use native.Mathlib.Omega.{arith}
use lib.IntN.{ℤ, pos, ◌-ℤ◌}
use lib.Signed.{mag}
use mir.Syntax.{Width, w32}
use mir.Val.{SFits, of_z, to_z}
use mir.Facts.{to_z-of_z, to_z_pos}
use Rattle.definitions.specs.Basics.{minus}
use Rattle.definitions.specs.Record.{wide}
use Rattle.definitions.proofs.Differences.{sub-pos, pos-minus, zero_minus}

minus-size : (n m : ℕ) → n < m → mag (minus n) < m
minus-size zero m h = h
minus-size (suc n) m h = omega arith

module _ (limit : ℕ) (most : limit ≤ wide) where
  small : limit < 2 ^ 31
  small = omega arith

  low : to_z w32 0 -ℤ to_z w32 limit ≡ minus limit
  low = ap (λ (z : ℤ). pos 0 -ℤ z) (to_z_pos w32 small) ∙ zero_minus limit

  minus-fits : SFits w32 (minus limit)
  minus-fits = record { sfits = minus-size limit (2 ^ 31) small }

  pub low_fits : SFits w32 (to_z w32 0 -ℤ to_z w32 limit)
  low_fits = subst (SFits w32) (sym low) minus-fits

  pub low-is : to_z w32 (of_z w32 (to_z w32 0 -ℤ to_z w32 limit)) ≡ minus limit
  low-is = to_z-of_z low_fits ∙ low

  module _ (some : 0 < limit) where
    high : to_z w32 limit -ℤ to_z w32 1 ≡ pos (limit - 1)
    high = ap (λ (z : ℤ). z -ℤ pos 1) (to_z_pos w32 small) ∙ (pos-minus limit 1 ∙ sub-pos limit 1 (omega arith))

    pub high_fits : SFits w32 (to_z w32 limit -ℤ to_z w32 1)
    high_fits = subst (SFits w32) (sym high) (record { sfits = omega arith })

    pub high_is : to_z w32 (of_z w32 (to_z w32 limit -ℤ to_z w32 1)) ≡ pos (limit - 1)
    high_is = to_z-of_z high_fits ∙ high

-- where the lower end fits, the upper does
pub upper_fits : (w : Width) (n : ℕ) → SFits w (minus n) → SFits w (pos (n - 1))
upper_fits w zero f = f
upper_fits w (suc n) f = record { sfits = omega (arith, f.sfits) }
