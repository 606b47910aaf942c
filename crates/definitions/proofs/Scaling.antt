-- Step 4 keeps motions apart (S ≥ B), so a split before it or after it is the same. Assumes nothing.
use Prim.Native.Nat.{ℕ}
use mathlib.Core.Path.{◌≡◌, sym, ◌∙◌, ap}
use mathlib.Core.Bool.{◌&&◌}
use mathlib.Core.List.{List}
use Rattle.definitions.specs.declared.Axes.{Axes}
use Rattle.definitions.specs.declared.Prediction.{Prediction}
use Rattle.definitions.specs.declared.Motion.{Motion}
use Rattle.definitions.specs.declared.Split.TheVariants.{S8x8 as Quarters}
use Rattle.definitions.specs.Basics.{pick, four}
use Rattle.definitions.specs.Geometry.{base_size, scaled_size}
use Rattle.definitions.specs.Accepted.{Sized}
use Rattle.definitions.specs.Splits.{same_motion}
use Rattle.definitions.specs.Inheriting.{at, scaled_prediction, scaled_motion, chosen}
use Rattle.definitions.proofs.Choices.{both_ways}
use Rattle.definitions.proofs.Rounding.{word-apart}
use Rattle.definitions.proofs.Motions.{motion-true, motion-same}
use Rattle.definitions.proofs.Shapes.{cut, same_pairs, shape_of, quadrant_shape, shapes_of, all_whole, joined, split_of}
use Rattle.definitions.proofs.Fewest.{chosen_is}

-- ---- what keeps motions apart keeps the shapes
module _ (f : Motion → Motion) (apart : (m n : Motion) → f m ≡ f n → m ≡ n) where
  same_kept : (m n : Motion) → same_motion (f m) (f n) ≡ same_motion m n
  same_kept m n =
      both_ways (same_motion (f m) (f n)) (same_motion m n)
      (λ e. motion-same m n (apart m n (motion-true (f m) (f n) e)))
      (λ e. motion-same (f m) (f n) (ap f (motion-true m n e)))

  pub shape-kept : (a b c d : Motion) → shape_of (f a) (f b) (f c) (f d) ≡ shape_of a b c d
  unfolding shape_of same_pairs
  shape-kept a b c d =
      let ab = same_kept a b in
      let cd = same_kept c d in
      let ac = same_kept a c in
      let bd = same_kept b d in
      λ i. cut (ab i && cd i) (ac i && bd i)

  -- so the same split is chosen
  pub chosen-kept : (m : List (List Motion)) → chosen (four (λ q. four (λ k. f (at m q k)))) ≡ chosen m
  unfolding split_of shapes_of quadrant_shape
  chosen-kept m =
      let quadrant : (q : ℕ) → shape_of (f (at m q 0)) (f (at m q 1)) (f (at m q 2)) (f (at m q 3)) ≡ shape_of (at m q 0) (at m q 1) (at m q 2) (at m q 3) =
      λ q. shape-kept _ _ _ _ in
      let shapes : shapes_of (four (λ q. four (λ k. f (at m q k)))) ≡ shapes_of m =
      λ i. record { a = quadrant 0 i; b = quadrant 1 i; c = quadrant 2 i; d = quadrant 3 i } in
      let top = shape-kept (at m 0 0) (at m 1 0) (at m 2 0) (at m 3 0) in
      let same : split_of (four (λ q. four (λ k. f (at m q k)))) ≡ split_of m =
      λ i. pick (all_whole (shapes i)) (joined (top i) (shapes i)) (Quarters (shapes i)) in
      chosen_is (four (λ q. four (λ k. f (at m q k)))) ∙ (same ∙ sym (chosen_is m))

-- ---- motions, by accepted axes
module _ (g : Axes) (h : Sized (base_size g.horizontal) (scaled_size g.horizontal)) (v : Sized (base_size g.vertical) (scaled_size g.vertical)) where
  prediction-apart : (p q : Prediction) → scaled_prediction g p ≡ scaled_prediction g q → p ≡ q
  unfolding scaled_prediction
  prediction-apart p q e =
      let r : p.reference ≡ q.reference = ap (λ (x : Prediction). x.reference) e in
      let s : p.x ≡ q.x = word-apart (base_size g.horizontal) (scaled_size g.horizontal) p.x q.x h (ap (λ (x : Prediction). x.x) e) in
      let t : p.y ≡ q.y = word-apart (base_size g.vertical) (scaled_size g.vertical) p.y q.y v (ap (λ (x : Prediction). x.y) e) in
      λ i. record { reference = r i; x = s i; y = t i }

  motion-apart : (m n : Motion) → scaled_motion g m ≡ scaled_motion g n → m ≡ n
  unfolding scaled_motion
  motion-apart m n e =
      let p : m.list0 ≡ n.list0 = prediction-apart _ _ (ap (λ (x : Motion). x.list0) e) in
      let q : m.list1 ≡ n.list1 = prediction-apart _ _ (ap (λ (x : Motion). x.list1) e) in
      λ i. record { list0 = p i; list1 = q i }

  pub chosen-scaled : (m : List (List Motion)) → chosen (four (λ q. four (λ k. scaled_motion g (at m q k)))) ≡ chosen m
  chosen-scaled = chosen-kept (scaled_motion g) motion-apart
