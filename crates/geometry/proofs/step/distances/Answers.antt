use Prim.Native.Nat.{ℕ, ◌+◌, ◌<◌, ◌≤◌}
use mathlib.Core.Path.{◌≡◌}
use native.Mathlib.Omega.{arith}
use Rattle.definitions.specs.Accepted.{Inside}
use Rattle.definitions.specs.Geometry.{k_of, p_of}
use Rattle.definitions.proofs.Positions.{near, room}
use Rattle.geometry.proofs.Bounds.{place-top}
use Rattle.geometry.proofs.step.distances.Goals as goal

-- a border that a place of the grid gives, and the centre
bounds : {b s k j x centre : ℕ} → Inside b s centre → k ≡ k_of b s centre → x ≡ p_of b s j → j ≤ k + 1 → (x < 65536) × (centre < 65536)
bounds {b} {s} {k} {j} {x} {centre} inside e p l =
    let top : j ≤ 512 = omega (arith, room b s centre inside, e, l) in
    (omega (arith, p, place-top b s j inside.sized top), omega (arith, near b s centre inside))

pub grid_sample-requires-2 : goal.grid_sample-requires-2
grid_sample-requires-2 c = (c.requires.0.sized, omega (arith, room _ _ _ c.requires.0, c.requires.1))

pub distance-requires-2 : goal.distance-requires-2
distance-requires-2 c = bounds c.requires.0 c.requires.1 c.grid_sample-2.ensures (omega arith)
