-- A number of at most 32,768, cast to i32 and taken from 0.
use Prim.Native.Nat.{ℕ, zero, suc, ◌<◌, ◌≤◌, ◌^◌}
use mathlib.Core.Path.{◌≡◌, ap, sym, subst, ◌∙◌}
use mathlib.Core.Bool.{true}
use native.Mathlib.Omega.{arith}
use lib.IntN.{ℤ, pos, ◌-ℤ◌}
use mir.Syntax.{w16, w32}
use mir.Val.{SFits, to_z, of_z}
use mir.Facts.{to_z_pos, to_z-of_z}
use Rattle.definitions.proofs.Differences.{zero_minus}
use Rattle.grammar.proofs.Machine.{with_minus}

pub pos-is : (n : ℕ) → n ≤ 32767 → to_z w16 n ≡ pos n
pos-is n h = to_z_pos w16 (let q : n < 2 ^ 15 = omega arith in q)

with_minus-fits : (n : ℕ) → n ≤ 32768 → SFits w16 (with_minus true n) × SFits w32 (with_minus true n)
with_minus-fits zero h = (record { sfits = omega arith }, record { sfits = omega arith })
with_minus-fits (suc n) h = (record { sfits = omega arith }, record { sfits = omega arith })

module _ (n : ℕ) (h : n ≤ 32768) where
  taken : pos 0 -ℤ to_z w32 n ≡ with_minus true n
  taken = ap (λ (z : ℤ). pos 0 -ℤ z) (to_z_pos w32 (let q : n < 2 ^ 31 = omega arith in q)) ∙ zero_minus n

  pub neg-fits : SFits w32 (pos 0 -ℤ to_z w32 n)
  neg-fits = subst (SFits w32) (sym taken) (with_minus-fits n h).1

  neg_is : to_z w32 (of_z w32 (pos 0 -ℤ to_z w32 n)) ≡ with_minus true n
  neg_is = to_z-of_z neg-fits ∙ taken

  pub neg-fits16 : SFits w16 (to_z w32 (of_z w32 (pos 0 -ℤ to_z w32 n)))
  neg-fits16 = subst (SFits w16) (sym neg_is) (with_minus-fits n h).0

  pub neg-is16 : to_z w16 (of_z w16 (to_z w32 (of_z w32 (pos 0 -ℤ to_z w32 n)))) ≡ with_minus true n
  neg-is16 = to_z-of_z neg-fits16 ∙ neg_is
