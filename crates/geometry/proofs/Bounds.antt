-- Bounds of the numbers on the way to an axis step. Assumes nothing.
use Prim.Native.Nat.{ℕ, ◌≤◌, ◌<◌}
use mathlib.Core.Path.{◌≡◌}
use native.Mathlib.Nat.{div-lt_iff_lt-mul, mul-le-mul}
use native.Mathlib.Omega.{arith}
use lib.IntN.{ℤ, nat_abs, sub_ℕ}
use Rattle.definitions.specs.Accepted.{Inside, Sized}
use Rattle.definitions.specs.Geometry.{d1_of, d2_of, p_of}
use Rattle.definitions.proofs.Differences.{sub_cases}
use Rattle.definitions.proofs.Positions.{near, room}

pub place-top : (b s j : ℕ) → Sized b s → j ≤ 512 → p_of b s j < 65536
place-top b s j z h =
    let low : 0 < b = omega arith in
    (div-lt_iff_lt-mul low).1 (omega (arith, mul-le-mul h z.scaled-high))

pub difference-small : (a b : ℕ) → a < 65536 → b < 65536 → nat_abs (sub_ℕ a b) < 65536
difference-small a b h g = sub_cases (λ z. nat_abs z < 65536) a b (λ l. omega arith) (λ l. omega arith)

-- the distance from a centre inside to a border at most 512 blocks from the edge
pub distance-small : (b s c j : ℕ) → Inside b s c → j ≤ 512 → nat_abs (sub_ℕ (p_of b s j) c) < 65536
distance-small b s c j a h = difference-small _ _ (place-top b s j a.sized h) (omega (arith, near b s c a))

-- d1 and d2
pub distances-small : (b s c : ℕ) {d1 d2 : ℤ} → Inside b s c → d1 ≡ d1_of b s c → d2 ≡ d2_of b s c → (nat_abs d1 < 65536) × (nat_abs d2 < 65536)
distances-small b s c a e1 e2 =
    let r = room b s c a in
    rw (e1, e2) (distance-small _ _ _ _ a (omega (arith, r)), distance-small _ _ _ _ a (omega (arith, r)))
