-- How many macroblocks an accepted geometry has. Assumes nothing.
use Prim.Native.Nat.{ℕ, ◌*◌, ◌/◌, ◌≤◌}
use native.Mathlib.Nat.{mul-le-mul}
use native.Mathlib.Omega.{arith}
use Rattle.definitions.specs.declared.Axes.{Axes}
use Rattle.definitions.specs.Geometry.{base_size, full_size, macroblocks}
use Rattle.definitions.specs.Accepted.{AcceptedAxes}
use Rattle.definitions.specs.Raster.{base_count, full_count}

product : (a b : ℕ) → a ≤ 4096 → b ≤ 4096 → macroblocks a * macroblocks b ≤ 65536
product a b h k =
    let x : a / 16 ≤ 256 = omega arith in
    let y : b / 16 ≤ 256 = omega arith in
    mul-le-mul x y

module _ (g : Axes) (a : AcceptedAxes g) where
  pub base-small : base_count g ≤ 65536
  base-small = product (base_size g.horizontal) (base_size g.vertical) a.horizontal.sized.base-high a.vertical.sized.base-high

  pub full-small : full_count g ≤ 65536
  full-small = product (full_size g.horizontal) (full_size g.vertical) a.horizontal.full-high a.vertical.full-high
