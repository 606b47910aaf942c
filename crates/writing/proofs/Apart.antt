-- Scaling keeps different motions different, and so the split that is chosen, and the type of quadrants of one motion each. Assumes nothing.
use Prim.Native.Nat.{◌+◌}
use mathlib.Core.Path.{◌≡◌, sym, ◌∙◌, ap}
use mathlib.Core.List.{List}
use lib.IntN.{ℤ}
use Rattle.definitions.specs.declared.Motion.{Motion}
use Rattle.definitions.specs.declared.Prediction.{Prediction}
use Rattle.definitions.specs.declared.SubSplit.{SubSplit}
use Rattle.definitions.specs.Basics.{four}
use Rattle.definitions.specs.Inheriting.{at, chosen, scaled_by}
use Rattle.definitions.specs.Record.{sub_type_number}
use Rattle.definitions.proofs.Rounding.{number-apart}
use Rattle.definitions.proofs.Scaling.{chosen-kept, shape-kept}
use Rattle.definitions.proofs.Shapes.{quadrant_shape}
use Rattle.motion.specs.declared.Scale.{Scale}
use Rattle.motion.specs.declared.Scales.{Scales}
use Rattle.motion.specs.Scales.{AcceptedScale, AcceptedScales, all_scaled, motion_scaled, prediction_scaled, scaled_with}
use Rattle.motion.proofs.ByScales.{with_number}
use Rattle.split.specs.Types.{type_among}
use Rattle.split.proofs.Chosen.{sub-chosen-is}

module _ (s : Scales) (accepted : AcceptedScales s) where
  word-apart : (t : Scale) → AcceptedScale t → (v w : ℤ) → scaled_with t v ≡ scaled_with t w → v ≡ w
  word-apart t a v w e =
      let by : (x : ℤ) → scaled_with t x ≡ scaled_by a.number x = λ x. ap (λ (u : Scale). scaled_with u x) a.parts ∙ with_number a.number x in
      number-apart a.number v w a.low (sym (by v) ∙ (e ∙ by w))

  prediction-apart : (p q : Prediction) → prediction_scaled s p ≡ prediction_scaled s q → p ≡ q
  prediction-apart p q e =
      let r : p.reference ≡ q.reference = ap (λ (z : Prediction). z.reference) e in
      let x = word-apart s.horizontal accepted.horizontal p.x q.x (ap (λ (z : Prediction). z.x) e) in
      let y = word-apart s.vertical accepted.vertical p.y q.y (ap (λ (z : Prediction). z.y) e) in
      λ i. record { reference = r i; x = x i; y = y i }

  motion-apart : (m n : Motion) → motion_scaled s m ≡ motion_scaled s n → m ≡ n
  motion-apart m n e =
      let p = prediction-apart m.list0 n.list0 (ap (λ (z : Motion). z.list0) e) in
      let q = prediction-apart m.list1 n.list1 (ap (λ (z : Motion). z.list1) e) in
      λ i. record { list0 = p i; list1 = q i }

  pub chosen-with : (m : List (List Motion)) → chosen (all_scaled s m) ≡ chosen m
  unfolding all_scaled
  chosen-with = chosen-kept (motion_scaled s) motion-apart

  pub type-with : (m : List (List Motion)) → type_among (four (λ q. at (all_scaled s m) q 0)) ≡ type_among (four (λ q. at m q 0))
  unfolding all_scaled type_among quadrant_shape
  type-with m =
      let scaled = sub-chosen-is (four (λ q. at (all_scaled s m) q 0)) in
      let kept = shape-kept (motion_scaled s) motion-apart (at m 0 0) (at m 1 0) (at m 2 0) (at m 3 0) in
      ap (λ (x : SubSplit). sub_type_number x + 1) (scaled ∙ (kept ∙ sym (sub-chosen-is (four (λ q. at m q 0)))))
