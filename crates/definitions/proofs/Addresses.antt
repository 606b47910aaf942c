-- The base macroblocks that an answer names: their columns and rows lie inside the base, and every block reads one of them. Assumes nothing.
use Prim.Native.Nat.{ℕ, ◌*◌, ◌/◌, ◌%◌, ◌<◌}
use mathlib.Core.Path.{◌≡◌, refl, ap, subst}
use mathlib.Core.List.Memᴰ
use mathlib.Core.List.{List, [], ◌∷◌, map, Memᴰ}
use mathlib.Core.Logic.{⊎_elim}
use native.Mathlib.Nat.{mul-le-mul_right}
use native.Mathlib.Omega.{arith}
use Rattle.definitions.specs.declared.Axes.{Axes}
use Rattle.definitions.specs.Basics.{for_each}
use Rattle.definitions.specs.Accepted.{Inside}
use Rattle.definitions.specs.Geometry.{base_size, scaled_size, c_of, f_of, two_of, columns_read, sample_of, macroblocks}
use Rattle.definitions.specs.BlockMap.{coordinate_of, step_of, address_read}
use Rattle.definitions.specs.Answer.{origin_at, columns_of, rows_of, addresses_of}
use Rattle.definitions.specs.Raster.{base_address}
use Rattle.definitions.proofs.Choices.{four-at}
use Rattle.definitions.proofs.Map.{read_named, named-below, class-columns, class-rows}

-- ---- members of made lists
for-member : {A B : Type 0} (f : A → List B) {x : A} {y : B} (l : List A) → Memᴰ x l → Memᴰ y (f x) → Memᴰ y (for_each l f)
for-member f [] m k = absurd (Memᴰ.not-nil m)
for-member f {x} {y} (z ∷ zs) m k =
    ⊎_elim (λ e. Memᴰ.append_left (for_each zs f) (subst (λ l. Memᴰ y l) (ap f e) k)) (λ t. Memᴰ.append_right (f z) (for-member f zs t k)) (Memᴰ.cases_cons m)

pub member-for : {A B : Type 0} (f : A → List B) {y : B} (l : List A) → Memᴰ y (for_each l f) → (x : A) × Memᴰ x l × Memᴰ y (f x)
member-for f [] m = absurd (Memᴰ.not-nil m)
member-for f (z ∷ zs) m =
    ⊎_elim (λ t. (z, Memᴰ.head refl, t)) (λ t. let w = member-for f zs t in (w.0, Memᴰ.tail w.1, w.2)) (Memᴰ.append_cases (f z) m)

module _ (g : Axes) (column row : ℕ) where
  abbrev hor : ℕ
  hor = c_of g.horizontal (sample_of column)

  abbrev ver : ℕ
  ver = c_of g.vertical (sample_of row)

  pub columns-are : columns_of (origin_at g column row) ≡ columns_read (f_of (base_size g.horizontal) (scaled_size g.horizontal) hor) (two_of (base_size g.horizontal) (scaled_size g.horizontal) hor)
  unfolding origin_at step_of
  columns-are = ap (columns_read _) (class-columns _ _)

  pub rows_are : rows_of (origin_at g column row) ≡ columns_read (f_of (base_size g.vertical) (scaled_size g.vertical) ver) (two_of (base_size g.vertical) (scaled_size g.vertical) ver)
  unfolding origin_at step_of
  rows_are = ap (columns_read _) (class-rows (two_of (base_size g.horizontal) (scaled_size g.horizontal) hor) _)

  module _ (h : Inside (base_size g.horizontal) (scaled_size g.horizontal) hor) (v : Inside (base_size g.vertical) (scaled_size g.vertical) ver) where
    -- the columns and rows that are named lie inside the base
    pub column-below : {x : ℕ} → Memᴰ x (columns_of (origin_at g column row)) → x < macroblocks (base_size g.horizontal)
    column-below m = named-below _ _ _ h (rw columns-are at m)

    pub row_below : {y : ℕ} → Memᴰ y (rows_of (origin_at g column row)) → y < macroblocks (base_size g.vertical)
    row_below m = named-below _ _ _ v (rw rows_are at m)

    -- every block reads a macroblock that is named
    pub address-named : (i : ℕ) → i < 16 → Memᴰ (address_read g column row i) (addresses_of g (origin_at g column row))
    unfolding address_read addresses_of step_of
    address-named i l =
        let x : i % 4 < 4 = omega arith in
        let y : i / 4 < 4 = omega arith in
        for-member (λ r. map (λ c. base_address g c r) (columns_of (origin_at g column row))) (rows_of (origin_at g column row))
        (rw (rows_are, four-at (coordinate_of (base_size g.vertical) (scaled_size g.vertical) ver) 0 (i / 4) y) (read_named _ _ _ v (i / 4) y))
        (Memᴰ.map (λ c. base_address g c _) {l = columns_of (origin_at g column row)}
        (rw (columns-are, four-at (coordinate_of (base_size g.horizontal) (scaled_size g.horizontal) hor) 0 (i % 4) x) (read_named _ _ _ h (i % 4) x)))

    -- and each macroblock that is named has an address of the base
    pub address_below : {a : ℕ} → Memᴰ a (addresses_of g (origin_at g column row)) → a < macroblocks (base_size g.horizontal) * macroblocks (base_size g.vertical)
    unfolding addresses_of
    address_below {a} m =
        let r = member-for (λ r. map (λ c. base_address g c r) (columns_of (origin_at g column row))) (rows_of (origin_at g column row)) m in
        let c = Memᴰ.of_map (λ c. base_address g c r.0) (columns_of (origin_at g column row)) r.2 in
        let width = macroblocks (base_size g.horizontal) in
        let x : c.0 < width = column-below c.1 in
        let y : r.0 < macroblocks (base_size g.vertical) = row_below r.1 in
        omega (arith, c.2, mul-le-mul_right width y)
