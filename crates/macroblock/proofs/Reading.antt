-- An axis at a macroblock, inside and outside. Assumes nothing.
use Prim.Native.Nat.{ℕ, ◌+◌, ◌*◌, ◌-◌, ◌%◌, ◌≤◌, ◌<◌}
use mathlib.Core.Path.{◌≡◌, refl, sym, ap, subst, ◌∙◌}
use mathlib.Core.Bool.{Bool, true, false}
use native.Mathlib.Nat.{div-mul-le_self, eq-zero-or-pos, le-div_iff_mul-le, le_trans}
use native.Mathlib.Omega.{arith}
use mathlib.Core.Logic.{⊎_elim}
use Rattle.definitions.specs.declared.Axis.{Axis}
use Rattle.definitions.specs.declared.AxisStep.{AxisStep}
use Rattle.macroblock.specs.declared.AxisRead.{AxisRead}
use Rattle.definitions.specs.Basics.{four, pick}
use Rattle.definitions.specs.Why.{Under, centre_of, middle_of, width_of}
use Rattle.gather.specs.Reads.{Rising}
use Rattle.definitions.proofs.Under.{formula, under}
use mathlib.Core.List.{Memᴰ}
use Rattle.definitions.specs.Geometry.{base_size, scaled_size, inside_axis, sample_of, c_of, columns_read, f_of, two_of}
use Rattle.definitions.specs.BlockMap.{column_of, step_of, coordinate_of}
use Rattle.definitions.specs.Accepted.{AcceptedAxis, Inside}
use Rattle.definitions.proofs.Accepted.{inside-axis}
use Rattle.definitions.proofs.Choices.{each, yes, no, four-at}
use Rattle.definitions.proofs.Fed.{falls-low}
use Rattle.definitions.proofs.Map.{coordinate-below, named-read, read-column}
use Rattle.macroblock.specs.Made.{SmallRising, read_in, nowhere, read_of}

-- ---- the coordinates that are read rise, and reach one macroblock far at the most
module _ (b s c : ℕ) (at_c : Inside b s c) where
  wide : 0 < width_of b s c
  wide = ⊎_elim (λ z. absurd (none z (under b s c 0 at_c (omega arith)))) (λ p. p) (eq-zero-or-pos (width_of b s c))
    where
      none : width_of b s c ≡ 0 → Under (width_of b s c) (coordinate_of b s c 0) 0 (centre_of (middle_of b s c) 0) → ⊥
      none z u = omega (arith, (u.even refl).1, ap (λ (w : ℕ). (coordinate_of b s c 0 + 1) * w) z)

  rises : (i j : ℕ) → i < 4 → j < 4 → centre_of (middle_of b s c) i - i % 2 ≤ centre_of (middle_of b s c) j - j % 2 → coordinate_of b s c i ≤ coordinate_of b s c j
  rises i j h l e =
      rw (formula b s c i at_c h, formula b s c j at_c l)
      ((le-div_iff_mul-le wide).1 (le_trans (div-mul-le_self (centre_of (middle_of b s c) i - i % 2) (width_of b s c)) e))

  pub coordinates-rise : Rising (four (coordinate_of b s c))
  coordinates-rise =
      let f = read-column b s c at_c 0 (omega arith) in
      let l = read-column b s c at_c 3 (omega arith) in
      record {
        first = rises 0 1 (omega arith) (omega arith) (omega arith);
        second = rises 1 2 (omega arith) (omega arith) (omega arith);
        third = rises 2 3 (omega arith) (omega arith) (omega arith);
        near = ⊎_elim (λ p. ⊎_elim (λ q. omega (arith, p, q)) (λ q. omega (arith, p, q.1)) l) (λ p. ⊎_elim (λ q. omega (arith, p.1, q)) (λ q. omega (arith, p.1, q.1)) l) f;
      }

  -- the first lies in the first column (row), since that is read
  least : (i : ℕ) → i < 4 → coordinate_of b s c 0 ≤ coordinate_of b s c i
  least = let r = coordinates-rise in each (λ i. coordinate_of b s c 0 ≤ coordinate_of b s c i) (omega arith) (omega (arith, r)) (omega (arith, r)) (omega (arith, r))

  pub first-column : column_of (coordinate_of b s c 0) ≡ f_of b s c
  unfolding columns_read pick
  first-column =
      let n = named-read b s c at_c (first-named (f_of b s c) (two_of b s c)) in
      ⊎_elim (λ e. e) (λ e. omega (arith, e.1, n.2, least n.0 n.1)) (read-column b s c at_c 0 (omega arith))
    where
      first-named : (f : ℕ) (t : Bool) → Memᴰ f (columns_read f t)
      first-named f true = Memᴰ.head refl
      first-named f false = Memᴰ.head refl

module _ (a : Axis) (x : ℕ) where
  pub read-inside : {step : AxisStep} {r : AxisRead} → inside_axis a (sample_of x) ≡ true → step ≡ step_of a (sample_of x) → r ≡ read_in step → r ≡ read_of a x
  unfolding read_of
  read-inside e s p = p ∙ (ap read_in s ∙ sym (yes _ _ e))

  pub read-outside : {r : AxisRead} → inside_axis a (sample_of x) ≡ false → r ≡ nowhere → r ≡ read_of a x
  unfolding read_of
  read-outside e p = p ∙ sym (no _ _ e)

  -- whether it is inside is read off
  pub read-says : (read_of a x).inside ≡ inside_axis a (sample_of x)
  unfolding read_of
  read-says = says (inside_axis a (sample_of x))
    where
      says : (t : Bool) → (pick t (read_in (step_of a (sample_of x))) nowhere).inside ≡ t
      says true = ap (λ (r : AxisRead). r.inside) (yes (read_in (step_of a (sample_of x))) nowhere refl)
      says false = ap (λ (r : AxisRead). r.inside) (no (read_in (step_of a (sample_of x))) nowhere refl)

  -- columns and coordinates lie inside the base, which has 256 columns at the most
  small : AcceptedAxis a → inside_axis a (sample_of x) ≡ true → Inside (base_size a) (scaled_size a) (c_of a (sample_of x)) → SmallRising (step_of a (sample_of x))
  unfolding step_of
  small accepted within at_c = record {
    falls = falls-low a x accepted within;
    reads = λ i h. subst (λ (n : ℕ). n < 65536) (sym (four-at (coordinate_of (base_size a) (scaled_size a) (c_of a (sample_of x))) 0 i h))
        (omega (arith, accepted.sized.base-high, coordinate-below (base_size a) (scaled_size a) (c_of a (sample_of x)) at_c i h));
    rising = coordinates-rise (base_size a) (scaled_size a) (c_of a (sample_of x)) at_c;
  }

  pub step_small : {step : AxisStep} → AcceptedAxis a → inside_axis a (sample_of x) ≡ true → step ≡ step_of a (sample_of x) → SmallRising step
  step_small accepted e s = subst SmallRising (sym s) (small accepted e (inside-axis a (sample_of x) accepted e))

  -- inside, the coordinates rise
  pub step-rises : AcceptedAxis a → inside_axis a (sample_of x) ≡ true → Rising (step_of a (sample_of x)).reads
  unfolding step_of
  step-rises accepted e = coordinates-rise (base_size a) (scaled_size a) (c_of a (sample_of x)) (inside-axis a (sample_of x) accepted e)
