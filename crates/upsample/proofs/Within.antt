-- A column or row of the picture. Assumes nothing.
use Prim.Native.Nat.{ℕ}
use mathlib.Core.Path.{◌≡◌}
use mathlib.Core.Bool.{true}
use native.Mathlib.Omega.{arith}
use lib.Dec.{T}
use lib.IntN.{ℤ, pos, negsuc}
use lib.Signed.{non_neg}
use Rattle.definitions.specs.Refusals.{within_axis}

pub within-natural : (size : ℕ) (x : ℤ) → within_axis size x ≡ true → T (non_neg x)
within-natural size (pos n) e = tt
within-natural size (negsuc n) e = absurd (let z : ◌≡◌ {A = ℕ} 0 1 = cc in omega arith)
