-- On well-formed bases step 2 gives the same with and without step 1 before it, so that no output shows step 1: a block that reads intra uses no list, and step 2
-- gives it what step 1 would. Assumes zero_prediction.
use Prim.Native.Nat.{ℕ, ◌<◌}
use mathlib.Core.Path.{◌≡◌, refl, sym, ap, subst, ◌∙◌}
use mathlib.Core.Bool.{Bool, true, false, ◌&&◌, true≢false}
use mathlib.Core.List.{List, [], ◌∷◌}
use native.Mathlib.Nat.{le_antisymm}
use native.Mathlib.Omega.{arith}
use lib.Dec.{eqb, leb→le}
use lib.IntN.{ℤ, pos, negsuc}
use lib.ListN.{get_or}
use lib.Signed.{◌≤ℤ◌}
use borrow.Author.Tests.{eqb-true}
use Rattle.definitions.specs.declared.Prediction.{Prediction}
use Rattle.definitions.specs.declared.Motion.{Motion}
use Rattle.definitions.specs.Basics.{pick, eq_z, all_below, four, some_of}
use Rattle.definitions.specs.Record.{used}
use Rattle.definitions.specs.Inheriting.{zero_prediction, zero_motion, source, filled, reference_at, lowest, having, with_reference, unused, merged_list, merged}
use Rattle.definitions.specs.Answer.{unused_motion}
use Rattle.definitions.proofs.Choices.{yes, no, implies, implied, both_true, below_true, below-intro, eq_z-true, each, four-at, four_same}
use Rattle.definitions.proofs.Steps.{source-below, having-some, lowest-under, vector-had, not-used}

≤ℤ-antisym : (a b : ℤ) → a ≤ℤ b → b ≤ℤ a → a ≡ b
≤ℤ-antisym (pos m) (pos n) h k = ap pos (le_antisymm (leb→le m n h.le) (leb→le n m k.le))
≤ℤ-antisym (pos m) (negsuc n) h k = absurd h.le
≤ℤ-antisym (negsuc m) (pos n) h k = absurd k.le
≤ℤ-antisym (negsuc m) (negsuc n) h k = ap negsuc (le_antisymm (leb→le m n k.le) (leb→le n m h.le))

-- ---- where the vector comes from: a test on all clear blocks c and all blocks h that have r, among them
unfoldable pub on_bools : (Bool → Bool) → Bool
on_bools f = f true && f false

on_bool : (f : Bool → Bool) → on_bools f ≡ true → (b : Bool) → f b ≡ true
unfolding on_bools
on_bool f e true = (both_true (f true) (f false) e).0
on_bool f e false = (both_true (f true) (f false) e).1

abbrev pub Four : Type 0
Four = Bool → Bool → Bool → Bool → Bool

unfoldable pub on_four : Four → Bool
on_four f = on_bools (λ a. on_bools (λ b. on_bools (λ c. on_bools (λ d. f a b c d))))

pub on-four : (f : Four) → on_four f ≡ true → (a b c d : Bool) → f a b c d ≡ true
unfolding on_four
on-four f e a b c d = on_bool (f a b c) (on_bool (λ z. on_bools (λ w. f a b z w)) (on_bool (λ y. on_bools (λ z. on_bools (λ w. f a y z w))) (on_bool (λ x. on_bools (λ y. on_bools (λ z. on_bools (λ w. f x y z w)))) e a) b) c) d

abbrev list : Bool → Bool → Bool → Bool → List Bool
list a b c d = a ∷ b ∷ c ∷ d ∷ []

-- filled, block k has what block source c k had
same_source : List Bool → List Bool → Bool
same_source c h =
    implies (all_below 4 (λ k. implies (get_or h k false) (get_or c k false)))
    (implies (some_of h) (all_below 4 (λ k. eqb (source c (source (four (λ j. get_or h (source c j) false)) k)) (source h k))))

all_same : on_four (λ a b c d. on_four (λ e f g h. same_source (list a b c d) (list e f g h))) ≡ true
unfolding on_four on_bools same_source all_below implies some_of source pick
all_same = refl

same_source_lem : (clear has : ℕ → Bool) → ((k : ℕ) → k < 4 → has k ≡ true → clear k ≡ true) → some_of (four has) ≡ true → (k : ℕ) → k < 4
    → source (four clear) (source (four (λ j. get_or (four has) (source (four clear) j) false)) k) ≡ source (four has) k
unfolding same_source implies
same_source_lem clear has within some k h =
    let c = four clear in
    let hs = four has in
    let t = on-four (λ x y z w. same_source c (list x y z w)) (on-four (λ x y z w. on_four (λ e f g v. same_source (list x y z w) (list e f g v))) all_same (clear 0) (clear 1) (clear 2) (clear 3)) (has 0) (has 1) (has 2) (has 3) in
    let among : all_below 4 (λ i. implies (get_or hs i false) (get_or c i false)) ≡ true =
    below-intro 4 _ (each (λ i. implies (get_or hs i false) (get_or c i false) ≡ true) (implies-intro _ _ (within 0 (omega arith))) (implies-intro _ _ (within 1 (omega arith))) (implies-intro _ _ (within 2 (omega arith))) (implies-intro _ _ (within 3 (omega arith)))) in
    eqb-true _ _ (below_true 4 (λ i. eqb (source c (source (four (λ j. get_or hs (source c j) false)) i)) (source hs i)) (implied _ _ (implied _ _ t among) some) k h)
  where
    implies-intro : (s u : Bool) → (s ≡ true → u ≡ true) → implies s u ≡ true
    implies-intro true u f = f refl
    implies-intro false u f = refl

-- ---- one list: p is what each block has of it
module _ (clear : ℕ → Bool) (p : ℕ → Prediction) (none : (k : ℕ) → k < 4 → clear k ≡ false → used (p k).reference ≡ false) where
  abbrev from : ℕ → ℕ
  from k = source (four clear) k

  abbrev before : List Prediction
  before = four p

  abbrev after : List Prediction
  after = four (λ k. p (from k))

  from-below : (k : ℕ) → k < 4 → from k < 4
  from-below = source-below (four clear)

  -- a used block is clear, and keeps what it has
  is-clear : (k : ℕ) → k < 4 → used (p k).reference ≡ true → clear k ≡ true
  is-clear k h u = go (clear k) refl
    where
      go : (t : Bool) → clear k ≡ t → clear k ≡ true
      go true e = e
      go false e = absurd (true≢false (sym u ∙ none k h e))

  keeps : (k : ℕ) → k < 4 → used (p k).reference ≡ true → from k ≡ k
  unfolding source
  keeps k h u = yes _ _ (four-at clear false k h ∙ is-clear k h u)

  reference-before : (k : ℕ) → k < 4 → reference_at before k ≡ (p k).reference
  reference-before k h = ap (λ (x : Prediction). x.reference) (four-at p zero_prediction k h)

  reference-after : (k : ℕ) → k < 4 → reference_at after k ≡ (p (from k)).reference
  reference-after k h = ap (λ (x : Prediction). x.reference) (four-at (λ j. p (from j)) zero_prediction k h)

  -- the lowest is some block's
  abbrev low_before : ℕ
  low_before = source (having before (lowest before)) 0

  low-before : low_before < 4
  low-before = source-below (having before (lowest before)) 0 (omega arith)

  lowest-before : lowest before ≡ (p low_before).reference
  lowest-before = vector-had before 0 (omega arith) ∙ reference-before low_before low-before

  abbrev low_after : ℕ
  low_after = source (having after (lowest after)) 0

  low-after : low_after < 4
  low-after = source-below (having after (lowest after)) 0 (omega arith)

  lowest-after : lowest after ≡ (p (from low_after)).reference
  lowest-after = vector-had after 0 (omega arith) ∙ reference-after low_after low-after

  -- so each is under the other where it is used
  after-under : used (lowest before) ≡ true → (used (lowest after) ≡ true) × (lowest after ≤ℤ lowest before)
  after-under u =
      let v : used (p low_before).reference ≡ true = ap used (sym lowest-before) ∙ u in
      let e : reference_at after low_before ≡ lowest before = reference-after low_before low-before ∙ (ap (λ (k : ℕ). (p k).reference) (keeps low_before low-before v) ∙ sym lowest-before) in
      let w = lowest-under after low_before low-before (ap used e ∙ u) in
      (w.0, subst (λ (z : ℤ). lowest after ≤ℤ z) e w.1)

  before-under : used (lowest after) ≡ true → (used (lowest before) ≡ true) × (lowest before ≤ℤ lowest after)
  before-under u =
      let e : reference_at before (from low_after) ≡ lowest after = reference-before (from low_after) (from-below low_after low-after) ∙ sym lowest-after in
      let w = lowest-under before (from low_after) (from-below low_after low-after) (ap used e ∙ u) in
      (w.0, subst (λ (z : ℤ). lowest before ≤ℤ z) e w.1)

  lowest-same : lowest after ≡ lowest before
  lowest-same = go (used (lowest before)) (used (lowest after)) refl refl
    where
      go : (s t : Bool) → used (lowest before) ≡ s → used (lowest after) ≡ t → lowest after ≡ lowest before
      go true t e f = let w = after-under e in ≤ℤ-antisym (lowest after) (lowest before) w.1 (before-under w.0).1
      go false true e f = absurd (true≢false (sym (before-under f).0 ∙ e))
      go false false e f = not-used (lowest after) f ∙ sym (not-used (lowest before) e)

  -- and so is what is merged
  abbrev r : ℤ
  r = lowest before

  abbrev has : ℕ → Bool
  has k = eq_z (p k).reference r

  vector-same : used r ≡ true → (k : ℕ) → k < 4 → get_or after (source (having after r) k) zero_prediction ≡ get_or before (source (having before r) k) zero_prediction
  unfolding having
  vector-same u k h =
      let within : (j : ℕ) → j < 4 → has j ≡ true → clear j ≡ true = λ j l e. is-clear j l (ap used (eq_z-true (p j).reference r e) ∙ u) in
      let some : some_of (four has) ≡ true = having-some before in
      let after-has : having after r ≡ four (λ j. get_or (four has) (from j) false) =
      four_same (sym (four-at has false (from 0) (from-below 0 (omega arith)))) (sym (four-at has false (from 1) (from-below 1 (omega arith)))) (sym (four-at has false (from 2) (from-below 2 (omega arith)))) (sym (four-at has false (from 3) (from-below 3 (omega arith)))) in
      let s = same_source_lem clear has within some k h in
      ap (λ (l : List Bool). get_or after (source l k) zero_prediction) after-has
      ∙ (four-at (λ j. p (from j)) zero_prediction (source (four (λ j. get_or (four has) (from j) false)) k) (source-below (four (λ j. get_or (four has) (from j) false)) k h)
      ∙ (ap p s ∙ sym (four-at p zero_prediction (source (four has) k) (source-below (four has) k h))))

  list_same : merged_list after ≡ merged_list before
  unfolding merged_list
  list_same =
      ap (λ (z : ℤ). pick (used z) (four (λ k. with_reference z (get_or after (source (having after z) k) zero_prediction))) (four (λ k. unused))) lowest-same ∙ go (used r) refl
    where
      go : (t : Bool) → used r ≡ t
          → pick (used r) (four (λ k. with_reference r (get_or after (source (having after r) k) zero_prediction))) (four (λ k. unused))
          ≡ pick (used r) (four (λ k. with_reference r (get_or before (source (having before r) k) zero_prediction))) (four (λ k. unused))
      go true u =
          let one : (k : ℕ) → k < 4 → with_reference r (get_or after (source (having after r) k) zero_prediction) ≡ with_reference r (get_or before (source (having before r) k) zero_prediction) = λ k h. ap (with_reference r) (vector-same u k h) in
          yes _ _ u ∙ (four_same (one 0 (omega arith)) (one 1 (omega arith)) (one 2 (omega arith)) (one 3 (omega arith)) ∙ sym (yes _ _ u))
      go false u = no _ _ u ∙ sym (no _ _ u)

-- ---- a quadrant
pub unseen : (clear : ℕ → Bool) (m : List Motion) → ((k : ℕ) → k < 4 → clear k ≡ false → get_or m k zero_motion ≡ unused_motion) → merged (filled (four clear) m) ≡ merged m
unfolding merged filled
unseen clear m none =
    let a = list_same clear (λ j. (get_or m j zero_motion).list0) (λ k h e. ap (λ (x : Motion). used x.list0.reference) (none k h e)) in
    let b = list_same clear (λ j. (get_or m j zero_motion).list1) (λ k h e. ap (λ (x : Motion). used x.list1.reference) (none k h e)) in
    λ i. four (λ k. record { list0 = get_or (a i) k zero_prediction; list1 = get_or (b i) k zero_prediction })
