-- The macroblocks of a picture, row by row, as the calls make them. Assumes nothing.
use Prim.Native.Nat.{ℕ, ◌+◌, ◌*◌, ◌≤◌, ◌<◌}
use mathlib.Core.Path.{◌≡◌, ◌∙◌}
use native.Mathlib.Nat.{mul-le-mul, mul_comm}
use native.Mathlib.Omega.{arith}
use Rattle.definitions.specs.declared.Axes.{Axes}
use Rattle.definitions.specs.Geometry.{full_size, macroblocks}
use Rattle.definitions.specs.Raster.{full_count}

module _ (g : Axes) (width height row : ℕ) (w : width ≡ macroblocks (full_size g.horizontal)) (h : height ≡ macroblocks (full_size g.vertical)) where
  pub address_below : (column : ℕ) → row < height → column < width → row * width + column < full_count g
  address_below column r c =
      let l : row + 1 ≤ height = omega arith in
      let n : width ≤ width = omega arith in
      let m : (row + 1) * width ≤ height * width = mul-le-mul l n in
      let e : height * width ≡ full_count g = (λ i. h i * w i) ∙ mul_comm (macroblocks (full_size g.vertical)) (macroblocks (full_size g.horizontal)) in
      omega (arith, m, e)

  pub rows_all : row ≡ height → row * width ≡ full_count g
  rows_all r = (λ i. (r ∙ h) i * w i) ∙ mul_comm (macroblocks (full_size g.vertical)) (macroblocks (full_size g.horizontal))
