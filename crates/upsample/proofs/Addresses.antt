-- What is made of a macroblock of the picture, by the readings of its two axes. Assumes nothing.
use Prim.Native.Nat.{ℕ, ◌+◌, ◌*◌, ◌<◌}
use mathlib.Core.Path.{◌≡◌, sym, subst, ◌∙◌}
use mathlib.Core.List.{List, Memᴰ}
use native.Mathlib.Omega.{arith}
use lib.IntN.{ℤ}
use Rattle.definitions.specs.declared.Axes.{Axes}
use Rattle.definitions.specs.Geometry.{full_size, macroblocks}
use Rattle.definitions.specs.Answer.{made_of}
use Rattle.definitions.specs.Calls.{made_at}
use Rattle.common.specs.Bases.{BaseFormed}
use Rattle.common.proofs.Located.{its-column, its-row}
use Rattle.macroblock.specs.declared.AxisRead.{AxisRead}
use Rattle.macroblock.specs.Made.{fixed_of, read_of, made_by, Makeable}
use Rattle.macroblock.proofs.Paper.{placed_by}
use Rattle.upsample.proofs.Readiness.{Known, known_of}

module _ {limit : ℕ} (g : Axes) (column row : ℕ) (base : List ℤ) (f : BaseFormed limit g base) (h v : AxisRead) (p : h ≡ read_of g.horizontal column) (q : v ≡ read_of g.vertical row) where
  known : Known g base f.right column row h v
  known = known_of g base f.right column row h v p q

  pub makeable : Makeable limit (fixed_of g) h v base
  makeable t =
      known.made-ready t (λ a m. f.formed a (omega (arith, (known.named-below t a (subst (Memᴰ a) (known.named t) m)).0, f.right.base-length)))

  pub made-of : made_by (fixed_of g) h v base ≡ made_of g base column row
  made-of = (λ i. made_by (fixed_of g) (p i) (q i) base) ∙ sym (placed_by g f.right.axes column row base)

  -- the macroblock at an address
  module _ (address : ℕ) (c : column < macroblocks (full_size g.horizontal)) (is : row * macroblocks (full_size g.horizontal) + column ≡ address) where
    pub made-there : made_by (fixed_of g) h v base ≡ made_at g base address
    unfolding made_at
    made-there = made-of ∙ (λ i. made_of g base (sym (its-column g address column row c is) i) (sym (its-row g address column row c is) i))
