-- A block put together of the lowest references and the vectors of the blocks that had them is the merged one. Assumes zero_prediction.
use Rattle.std.proofs.Common.{◌≡◌, ℕ, ◌*◌, ◌<◌, Bool, true, false, List, get_or, ℤ, sym, refl, ap, ◌∙◌, subst, arith, w64, Fits}
use Rattle.definitions.specs.declared.Prediction.{Prediction}
use Rattle.definitions.specs.declared.Motion.{Motion}
use Rattle.definitions.specs.Basics.{four}
use Rattle.definitions.specs.Record.{used}
use Rattle.definitions.specs.Inheriting.{zero_prediction, zero_motion, source, lowest, having, with_reference, unused, merged_list}
use Rattle.definitions.proofs.Choices.{yes, no, four-at}
use Rattle.definitions.proofs.Steps.{source-below, not-used, vector-had}
use Rattle.motion.specs.declared.BlockMotion.{BlockMotion}
use Rattle.motion.specs.ByValue.{zero_block, motion_in, motions_in}
use Rattle.quadrant.specs.Merging.{lowest_of, having4, joined_of, Empty, AllEmpty}

-- a block is six numbers of four bytes
pub block-fits : {j : ℕ} → j < 4 → Fits w64 (j * 24)
block-fits h = record { fits = omega arith }

-- ---- one list of four blocks
module _ (f : ℕ → Prediction) where
  abbrev pub low : ℤ
  low = lowest_of (f 0).reference (f 1).reference (f 2).reference (f 3).reference

  abbrev pub from : ℕ → ℕ
  from = source (having4 (f 0).reference (f 1).reference (f 2).reference (f 3).reference)

  from-below : (k : ℕ) → k < 4 → from k < 4
  from-below = source-below (having4 (f 0).reference (f 1).reference (f 2).reference (f 3).reference)

  -- the block from which the vector is taken had the lowest reference: where none is used, that block is empty
  had-low : (k : ℕ) → k < 4 → low ≡ (f (from k)).reference
  unfolding lowest having lowest_of having4
  had-low k h = vector-had (four f) k h ∙ ap (λ (p : Prediction). p.reference) (four-at f zero_prediction (from k) (from-below k h))

  merged-at : ((k : ℕ) → k < 4 → Empty (f k)) → (k : ℕ) → k < 4 → with_reference low (f (from k)) ≡ get_or (merged_list (four f)) k zero_prediction
  unfolding merged_list lowest having lowest_of having4
  merged-at empty k h = by (used low) refl
    where
      by : (b : Bool) → used low ≡ b → with_reference low (f (from k)) ≡ get_or (merged_list (four f)) k zero_prediction
      by true u =
          ap (with_reference low) (sym (four-at f zero_prediction (from k) (from-below k h)))
          ∙ sym (ap (λ (l : List Prediction). get_or l k zero_prediction) (yes _ _ u) ∙ four-at (λ j. with_reference low (get_or (four f) (from j) zero_prediction)) zero_prediction k h)
      by false u =
          let none = empty (from k) (from-below k h) (ap used (sym (had-low k h)) ∙ u) in
          let is = not-used low u in
          (λ i. with_reference (is i) (none i))
          ∙ sym (ap (λ (l : List Prediction). get_or l k zero_prediction) (no _ _ u) ∙ four-at (λ j. unused) zero_prediction k h)

-- ---- both lists
module _ (m : List BlockMotion) (empty : AllEmpty (motions_in m)) where
  abbrev first : ℕ → Prediction
  first k = (motion_in (get_or m k zero_block)).list0

  abbrev second : ℕ → Prediction
  second k = (motion_in (get_or m k zero_block)).list1

  empty_block : (k : ℕ) → k < 4 → Empty (first k) × Empty (second k)
  empty_block k h = subst (λ (x : Motion). Empty x.list0 × Empty x.list1) (four-at (λ j. motion_in (get_or m j zero_block)) zero_motion k h) (empty k h)

  pub merged-block : (k : ℕ) → k < 4 → {r0 r1 : ℤ} {a b : ℕ} {x : BlockMotion} → r0 ≡ low first → r1 ≡ low second → a ≡ from first k → b ≡ from second k
      → x ≡ joined_of r0 r1 (get_or m a zero_block) (get_or m b zero_block)
      → motion_in x ≡ record { list0 = get_or (merged_list (four first)) k zero_prediction; list1 = get_or (merged_list (four second)) k zero_prediction }
  merged-block k h e0 e1 ea eb ex =
      let one = merged-at first (λ j l. (empty_block j l).0) k h in
      let other = merged-at second (λ j l. (empty_block j l).1) k h in
      ap motion_in (ex ∙ (λ i. joined_of (e0 i) (e1 i) (get_or m (ea i) zero_block) (get_or m (eb i) zero_block)))
      ∙ (λ i. record { list0 = one i; list1 = other i })
