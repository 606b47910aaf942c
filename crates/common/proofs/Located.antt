-- Where an address of the picture stands: its column and row, and back. Assumes nothing.
use Prim.Native.Nat.{ℕ, ◌+◌, ◌*◌, ◌/◌, ◌%◌, ◌<◌, ◌≤◌}
use mathlib.Core.Path.{◌≡◌, sym, ap, ◌∙◌}
use native.Mathlib.Nat.{div-add-mod, div-eq_of_lt-le, div-lt_iff_lt-mul, mod-eq_of_lt, mod-lt, mul-add-mod_self_right, mul_comm}
use native.Mathlib.Omega.{arith}
use Rattle.definitions.specs.declared.Axes.{Axes}
use Rattle.definitions.specs.Accepted.{AcceptedAxes}
use Rattle.definitions.specs.Geometry.{full_size, macroblocks}
use Rattle.definitions.specs.Raster.{full_count}

-- ---- where an address stands
pub record Located (g : Axes) (address : ℕ) : Type 0 where
  pub some : 0 < macroblocks (full_size g.horizontal)
  pub within : address % macroblocks (full_size g.horizontal) < macroblocks (full_size g.horizontal)
  pub column : address % macroblocks (full_size g.horizontal) < 256
  pub row : address / macroblocks (full_size g.horizontal) < 256
  pub whole : address / macroblocks (full_size g.horizontal) * macroblocks (full_size g.horizontal) + address % macroblocks (full_size g.horizontal) ≡ address

pub located : (g : Axes) → AcceptedAxes g → (address total : ℕ) → total ≡ full_count g → address < total → Located g address
located g a address total e h =
    let w = macroblocks (full_size g.horizontal) in
    let wide : w ≤ 256 = omega (arith, a.horizontal.full-high) in
    let some : 0 < w = omega (arith, a.horizontal.full-low) in
    let high : macroblocks (full_size g.vertical) ≤ 256 = omega (arith, a.vertical.full-high) in
    let row : address / w < macroblocks (full_size g.vertical) = (div-lt_iff_lt-mul some).1 (omega arith) in
    record { some = some; within = mod-lt address some; column = omega (arith, mod-lt address some); row = omega arith; whole = ap (λ (n : ℕ). n + address % w) (mul_comm (address / w) w) ∙ div-add-mod address w }

-- ---- by its column and row
module _ (g : Axes) (address column row : ℕ) (c : column < macroblocks (full_size g.horizontal)) (is : row * macroblocks (full_size g.horizontal) + column ≡ address) where
  abbrev width : ℕ
  width = macroblocks (full_size g.horizontal)

  pub its-column : address % width ≡ column
  its-column = ap (λ (n : ℕ). n % width) (sym is) ∙ (mul-add-mod_self_right row width column ∙ mod-eq_of_lt c)

  pub its-row : address / width ≡ row
  its-row = div-eq_of_lt-le width (omega arith) (omega arith)

  pub row_below : AcceptedAxes g → (total : ℕ) → total ≡ full_count g → address < total → row < 256
  row_below a total e h = omega (arith, (located g a address total e h).row, its-row)
