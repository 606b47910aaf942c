-- Step 4 by the scales of an accepted geometry. Assumes nothing.
use Prim.Native.Nat.{ℕ}
use mathlib.Core.Path.{◌≡◌, refl, sym, ap, subst, ◌∙◌}
use mathlib.Core.List.{List}
use lib.IntN.{ℤ, pos, ◌+ℤ◌, ◌*ℤ◌}
use Rattle.definitions.specs.declared.Axes.{Axes}
use Rattle.definitions.specs.declared.Axis.{Axis}
use Rattle.definitions.specs.declared.Motion.{Motion}
use Rattle.definitions.specs.Accepted.{AcceptedAxes, AcceptedAxis}
use Rattle.definitions.specs.Basics.{down, four}
use Rattle.definitions.specs.Geometry.{base_size, scaled_size}
use Rattle.definitions.specs.Inheriting.{at, scale_of, scaled_by, scaled_prediction, scaled_motion}
use Rattle.definitions.proofs.Rounding.{scale-high, scale-low}
use Rattle.motion.specs.declared.Scales.{Scales}
use Rattle.motion.specs.Scales.{AcceptedScale, AcceptedScales, all_scaled, motion_scaled, scale_in, scaled_with, scales_of}
use Rattle.motion.proofs.Parts.{number_is}

axis-accepted : (a : Axis) → AcceptedAxis a → AcceptedScale (scale_in (scale_of (base_size a) (scaled_size a)))
axis-accepted a h =
    record { number = scale_of (base_size a) (scaled_size a); low = scale-low _ _ h.sized; high = scale-high _ _ h.sized; parts = refl }

-- by the two parts as by the number
pub with_number : (n : ℕ) (v : ℤ) → scaled_with (scale_in n) v ≡ scaled_by n v
with_number n v = ap (λ (z : ℤ). down (v *ℤ z +ℤ pos 32768) 65536) (number_is n)

module _ (g : Axes) {s : Scales} (e : s ≡ scales_of g) where
  pub accepted : AcceptedAxes g → AcceptedScales s
  accepted a = subst AcceptedScales (sym e) (record { horizontal = axis-accepted _ a.horizontal; vertical = axis-accepted _ a.vertical })

  pub by-scales : (m : Motion) → motion_scaled s m ≡ scaled_motion g m
  unfolding scaled_motion scaled_prediction
  by-scales m =
      let h = with_number (scale_of (base_size g.horizontal) (scaled_size g.horizontal)) in
      let v = with_number (scale_of (base_size g.vertical) (scaled_size g.vertical)) in
      (λ i. motion_scaled (e i) m) ∙
      (λ i. record {
        list0 = record { reference = m.list0.reference; x = h m.list0.x i; y = v m.list0.y i };
        list1 = record { reference = m.list1.reference; x = h m.list1.x i; y = v m.list1.y i };
      })

  pub all-by-scales : (m : List (List Motion)) → all_scaled s m ≡ four (λ q. four (λ k. scaled_motion g (at m q k)))
  unfolding all_scaled
  all-by-scales m = λ i. four (λ q. four (λ k. by-scales (at m q k) i))
