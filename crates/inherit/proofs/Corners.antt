-- The first blocks of the quadrants. Assumes nothing.
use Prim.Native.Nat.{ℕ, ◌≤◌, ◌<◌}
use mathlib.Core.List.{[], ◌∷◌}
use native.Mathlib.Omega.{arith}
use lib.ListN.{get_or}
use Rattle.definitions.proofs.Choices.{each}

pub corner-below : (q : ℕ) → q < 4 → get_or (0 ∷ 2 ∷ 8 ∷ 10 ∷ []) q 0 ≤ 10
corner-below = each (λ q. get_or (0 ∷ 2 ∷ 8 ∷ 10 ∷ []) q 0 ≤ 10) (omega arith) (omega arith) (omega arith) (omega arith)
