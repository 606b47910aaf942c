-- Steps 1 to 3 of "Inheriting": what they leave of references and vectors. Assumes zero_prediction.
use Prim.Native.Nat.{ℕ, zero, suc, ◌+◌, ◌*◌, ◌/◌, ◌%◌, ◌^◌, ◌≤◌, ◌<◌}
use mathlib.Core.Path.{◌≡◌, refl, sym, ◌∙◌, ap, subst}
use mathlib.Core.Logic.{◌⊎◌, inl, inr, ⊎_elim}
use mathlib.Core.Bool.{Bool, true, false, not, ◌||◌, true≢false}
use mathlib.Core.List.{List, []}
use native.Mathlib.Nat.{le_of_lt, le_trans, div-div-eq-div-mul, pow-suc, div-one}
use native.Mathlib.Omega.{arith}
use lib.Count.{ones, ones_step, ones-le}
use lib.Dec.{T, leb→le, le→leb}
use lib.IntN.{ℤ, pos, negsuc}
use lib.ListN.{get_or}
use lib.Signed.{lt_z, ◌≤ℤ◌, le_z_yes, ≤ℤ_refl, lt_z_no}
use borrow.Author.Tests.{eqb-true, ltb-true, not-true, not-false}
use Rattle.definitions.specs.declared.Prediction.{Prediction}
use Rattle.definitions.specs.declared.Motion.{Motion}
use Rattle.definitions.specs.Basics.{minus, eq_z, four, some_of}
use Rattle.definitions.specs.Record.{used}
use Rattle.definitions.specs.Inheriting.{marked, zero_prediction, zero_motion, at, source, clear_of, filled, lower, reference_at, lowest, having, with_reference, unused, merged_list, merged, live_of, copied_from, copied, resolved}
use Rattle.definitions.specs.Blocks.{raster_of, horizontal_neighbour, vertical_neighbour, diagonal_neighbour}
use Rattle.definitions.proofs.Choices.{yes, no, pick-cases, either_true, or_left, or_right, both_false, eq_z-true, eq_z-refl, each, four-at, four_same}

-- ---- neighbours
pub horizontal-below : (k : ℕ) → k < 4 → horizontal_neighbour k < 4
horizontal-below = each (λ k. horizontal_neighbour k < 4) (omega arith) (omega arith) (omega arith) (omega arith)

pub vertical-below : (k : ℕ) → k < 4 → vertical_neighbour k < 4
vertical-below = each (λ k. vertical_neighbour k < 4) (omega arith) (omega arith) (omega arith) (omega arith)

pub diagonal-below : (k : ℕ) → k < 4 → diagonal_neighbour k < 4
diagonal-below = each (λ k. diagonal_neighbour k < 4) (omega arith) (omega arith) (omega arith) (omega arith)

-- The source of a place is one of the four places, and it is good if any of the four is.
pub source-below : (g : List Bool) (k : ℕ) → k < 4 → source g k < 4
unfolding source
source-below g k h =
    let Below : ℕ → Type 0 = λ j. j < 4 in
    pick-cases Below _ _ _ (λ _. h)
    (λ _. pick-cases Below _ _ _ (λ _. horizontal-below k h)
    (λ _. pick-cases Below _ _ _ (λ _. vertical-below k h)
    (λ _. pick-cases Below _ _ _ (λ _. diagonal-below k h) (λ _. h))))

none-good : (g : List Bool) → get_or g 0 false ≡ false → get_or g 1 false ≡ false → get_or g 2 false ≡ false → get_or g 3 false ≡ false → some_of g ≡ false
unfolding some_of
none-good g a b c d = rw (a, b, c, d)

none-near : (g : List Bool) (k : ℕ) → k < 4 → get_or g k false ≡ false → get_or g (horizontal_neighbour k) false ≡ false
    → get_or g (vertical_neighbour k) false ≡ false → get_or g (diagonal_neighbour k) false ≡ false → some_of g ≡ false
none-near g =
    each (λ k. get_or g k false ≡ false → get_or g (horizontal_neighbour k) false ≡ false → get_or g (vertical_neighbour k) false ≡ false → get_or g (diagonal_neighbour k) false ≡ false → some_of g ≡ false)
    (λ a b c d. none-good g a b c d) (λ a b c d. none-good g b a d c) (λ a b c d. none-good g c d a b) (λ a b c d. none-good g d c b a)

pub source-good : (g : List Bool) → some_of g ≡ true → (k : ℕ) → k < 4 → get_or g (source g k) false ≡ true
unfolding source
source-good g e k h =
    let Good : ℕ → Type 0 = λ j. get_or g j false ≡ true in
    pick-cases Good _ _ _ (λ t. t)
    (λ a. pick-cases Good _ _ _ (λ t. t)
    (λ b. pick-cases Good _ _ _ (λ t. t)
    (λ c. pick-cases Good _ _ _ (λ t. t) (λ d. absurd (true≢false (sym e ∙ none-near g k h a b c d))))))

-- ---- the lowest used reference
-- x is used, and not above z
abbrev pub Under : ℤ → ℤ → Type 0
Under x z = (used x ≡ true) × (x ≤ℤ z)

pub ≤ℤ-trans : (a b c : ℤ) → a ≤ℤ b → b ≤ℤ c → a ≤ℤ c
≤ℤ-trans (pos a) (pos b) (pos c) h k = le_z_yes (le→leb a c (le_trans (leb→le a b h.le) (leb→le b c k.le)))
≤ℤ-trans (pos a) (pos b) (negsuc c) h k = absurd k.le
≤ℤ-trans (pos a) (negsuc b) c h k = absurd h.le
≤ℤ-trans (negsuc a) b (pos c) h k = le_z_yes tt
≤ℤ-trans (negsuc a) (pos b) (negsuc c) h k = absurd k.le
≤ℤ-trans (negsuc a) (negsuc b) (negsuc c) h k = le_z_yes (le→leb c a (le_trans (leb→le c b k.le) (leb→le b a h.le)))

less-le : (a b : ℤ) → lt_z a b ≡ true → a ≤ℤ b
less-le (pos m) (pos n) e = le_z_yes (le→leb m n (le_of_lt (ltb-true m n e)))
less-le (pos m) (negsuc n) e = absurd (true≢false (sym e))
less-le (negsuc m) (pos n) e = le_z_yes tt
less-le (negsuc m) (negsuc n) e = le_z_yes (le→leb n m (le_of_lt (ltb-true n m e)))

not-less : (a b : ℤ) → lt_z a b ≡ false → b ≤ℤ a
not-less a b e = lt_z_no (subst (λ (t : Bool). T (not t)) (sym e) tt)

under-trans : (x y z : ℤ) → Under x y → Under y z → Under x z
under-trans x y z h k = (h.0, ≤ℤ-trans x y z h.1 k.1)

-- the lower of two is one of them, and under each that is used
lower-one : (a b : ℤ) → (lower a b ≡ a) ⊎ (lower a b ≡ b)
unfolding lower
lower-one a b =
    let One : ℤ → Type 0 = λ z. (z ≡ a) ⊎ (z ≡ b) in
    pick-cases One _ _ _
    (λ _. pick-cases One _ _ _ (λ _. pick-cases One _ _ _ (λ _. inr refl) (λ _. inl refl)) (λ _. inl refl))
    (λ _. inr refl)

lower-left : (a b : ℤ) → used a ≡ true → Under (lower a b) a
unfolding lower
lower-left a b u =
    let P : ℤ → Type 0 = λ z. Under z a in
    pick-cases P _ _ _
    (λ _. pick-cases P _ _ _ (λ v. pick-cases P _ _ _ (λ l. (v, less-le b a l)) (λ _. (u, ≤ℤ_refl a))) (λ _. (u, ≤ℤ_refl a)))
    (λ n. absurd (true≢false (sym u ∙ n)))

lower-right : (a b : ℤ) → used b ≡ true → Under (lower a b) b
unfolding lower
lower-right a b u =
    let P : ℤ → Type 0 = λ z. Under z b in
    pick-cases P _ _ _
    (λ v. pick-cases P _ _ _ (λ _. pick-cases P _ _ _ (λ _. (u, ≤ℤ_refl b)) (λ l. (v, not-less b a l))) (λ n. absurd (true≢false (sym u ∙ n))))
    (λ _. (u, ≤ℤ_refl b))

-- r is used if any of the four is, and not above any that is used
pub lowest-under : (p : List Prediction) (k : ℕ) → k < 4 → used (reference_at p k) ≡ true → Under (lowest p) (reference_at p k)
unfolding lowest
lowest-under p =
    let a = reference_at p 0 in
    let b = reference_at p 1 in
    let c = reference_at p 2 in
    let d = reference_at p 3 in
    let first : (z : ℤ) → Under (lower a b) z → Under (lowest p) z =
    λ z h. under-trans (lowest p) (lower a b) z (lower-left (lower a b) (lower c d) h.0) h in
    let last : (z : ℤ) → Under (lower c d) z → Under (lowest p) z =
    λ z h. under-trans (lowest p) (lower c d) z (lower-right (lower a b) (lower c d) h.0) h in
    each (λ k. used (reference_at p k) ≡ true → Under (lowest p) (reference_at p k))
    (λ u. first a (lower-left a b u)) (λ u. first b (lower-right a b u)) (λ u. last c (lower-left c d u)) (λ u. last d (lower-right c d u))

-- some block has r, so each block has or takes the vector of one that had r
pub having-some : (p : List Prediction) → some_of (having p (lowest p)) ≡ true
unfolding some_of having lowest
having-some p =
    let has : ℕ → Bool = λ k. eq_z (reference_at p k) (lowest p) in
    let at-k : (k : ℕ) → lowest p ≡ reference_at p k → has k ≡ true = λ k e. ap (eq_z (reference_at p k)) e ∙ eq_z-refl (reference_at p k) in
    ⊎_elim
    (λ e. ⊎_elim
    (λ f. or_left (has 1 || (has 2 || has 3)) (at-k 0 (e ∙ f)))
    (λ f. or_right (has 0) (or_left (has 2 || has 3) (at-k 1 (e ∙ f))))
    (lower-one (reference_at p 0) (reference_at p 1)))
    (λ e. ⊎_elim
    (λ f. or_right (has 0) (or_right (has 1) (or_left (has 3) (at-k 2 (e ∙ f)))))
    (λ f. or_right (has 0) (or_right (has 1) (or_right (has 2) (at-k 3 (e ∙ f)))))
    (lower-one (reference_at p 2) (reference_at p 3)))
    (lower-one (lower (reference_at p 0) (reference_at p 1)) (lower (reference_at p 2) (reference_at p 3)))

-- ---- a merged list
-- a reference that is not used is −1
pub not-used : (r : ℤ) → used r ≡ false → r ≡ minus 1
not-used r e = eq_z-true r (minus 1) (not-false (eq_z r (minus 1)) e)

module _ (p : List Prediction) (k : ℕ) (h : k < 4) where
  abbrev merged_at : Prediction
  merged_at = get_or (merged_list p) k zero_prediction

  abbrev vector_from : ℕ
  vector_from = source (having p (lowest p)) k

  merged-with : used (lowest p) ≡ true → merged_at ≡ with_reference (lowest p) (get_or p vector_from zero_prediction)
  unfolding merged_list
  merged-with u =
      ap (λ (l : List Prediction). get_or l k zero_prediction) (yes _ _ u)
      ∙ four-at (λ i. with_reference (lowest p) (get_or p (source (having p (lowest p)) i) zero_prediction)) zero_prediction k h

  merged-none : used (lowest p) ≡ false → merged_at ≡ unused
  unfolding merged_list
  merged-none u = ap (λ (l : List Prediction). get_or l k zero_prediction) (no _ _ u) ∙ four-at (λ i. unused) zero_prediction k h

  -- all four have r, be it used or −1
  merged-reference : merged_at.reference ≡ lowest p
  merged-reference = by (used (lowest p)) refl
    where
      by : (b : Bool) → used (lowest p) ≡ b → merged_at.reference ≡ lowest p
      by true u = ap (λ (e : Prediction). e.reference) (merged-with u)
      by false u = ap (λ (e : Prediction). e.reference) (merged-none u) ∙ sym (not-used (lowest p) u)

  -- the block from which a vector is taken had r, so all of that block's part of the list is taken
  pub vector-had : lowest p ≡ reference_at p vector_from
  unfolding having
  vector-had =
      let good = source-good (having p (lowest p)) (having-some p) k h in
      let is = four-at (λ i. eq_z (reference_at p i) (lowest p)) false vector_from (source-below (having p (lowest p)) k h) in
      sym (eq_z-true (reference_at p vector_from) (lowest p) (sym is ∙ good))

  -- what holds of the four, and of an unused list, holds after merging
  merged_keeps : (P : Prediction → Type 0) → P unused → ((j : ℕ) → j < 4 → P (get_or p j zero_prediction)) → P merged_at
  merged_keeps P n a = by (used (lowest p)) refl
    where
      from : with_reference (lowest p) (get_or p vector_from zero_prediction) ≡ get_or p vector_from zero_prediction
      from = λ i. record { reference = vector-had i; x = (get_or p vector_from zero_prediction).x; y = (get_or p vector_from zero_prediction).y }

      by : (b : Bool) → used (lowest p) ≡ b → P merged_at
      by true u = subst P (sym (merged-with u ∙ from)) (a vector_from (source-below (having p (lowest p)) k h))
      by false u = subst P (sym (merged-none u)) n

  -- where the four have one reference, and this part is unused or empty, merging leaves it
  merged-leaves : ((j : ℕ) → j < 4 → reference_at p j ≡ reference_at p 0) → (used (reference_at p k) ≡ false → get_or p k zero_prediction ≡ unused)
      → merged_at ≡ get_or p k zero_prediction
  unfolding having source
  merged-leaves one empty = by (used (lowest p)) refl
    where
      is : lowest p ≡ reference_at p k
      is = vector-had ∙ (one vector_from (source-below (having p (lowest p)) k h) ∙ sym (one k h))

      here : vector_from ≡ k
      here = yes _ _ (four-at (λ i. eq_z (reference_at p i) (lowest p)) false k h ∙ (ap (eq_z (reference_at p k)) is ∙ eq_z-refl (reference_at p k)))

      by : (b : Bool) → used (lowest p) ≡ b → merged_at ≡ get_or p k zero_prediction
      by true u =
          merged-with u
          ∙ (ap (λ (s : ℕ). with_reference (lowest p) (get_or p s zero_prediction)) here
          ∙ (λ i. record { reference = is i; x = (get_or p k zero_prediction).x; y = (get_or p k zero_prediction).y }))
      by false u = merged-none u ∙ sym (empty (ap used (sym is) ∙ u))

-- ---- a quadrant: both lists
-- a block uses a list
abbrev pub uses_list : Motion → Bool
uses_list m = used m.list0.reference || used m.list1.reference

-- P of both lists of a block
abbrev pub Both : (Prediction → Type 0) → Motion → Type 0
Both P m = P m.list0 × P m.list1

-- What the layout of a record asks of a quadrant: in each list one reference, and where it is −1 the vectors are 0.
pub record Settled (q : List Motion) : Type 0 where
  pub one0 : (k : ℕ) → k < 4 → (get_or q k zero_motion).list0.reference ≡ (get_or q 0 zero_motion).list0.reference
  pub one1 : (k : ℕ) → k < 4 → (get_or q k zero_motion).list1.reference ≡ (get_or q 0 zero_motion).list1.reference
  pub zero0 : (k : ℕ) → k < 4 → used (get_or q k zero_motion).list0.reference ≡ false → (get_or q k zero_motion).list0 ≡ unused
  pub zero1 : (k : ℕ) → k < 4 → used (get_or q k zero_motion).list1.reference ≡ false → (get_or q k zero_motion).list1 ≡ unused

-- one list: part is what a motion has of it, and m are the four motions
module _ (part : Motion → Prediction) (m : List Motion) where
  abbrev list_of : List Prediction
  list_of = four (λ j. part (get_or m j zero_motion))

  in_list : (j : ℕ) → j < 4 → get_or list_of j zero_prediction ≡ part (get_or m j zero_motion)
  in_list = four-at (λ i. part (get_or m i zero_motion)) zero_prediction

  -- where the four have one reference, and each is unused or empty, merging leaves them
  list-leaves : ((j : ℕ) → j < 4 → (part (get_or m j zero_motion)).reference ≡ (part (get_or m 0 zero_motion)).reference)
      → ((j : ℕ) → j < 4 → used (part (get_or m j zero_motion)).reference ≡ false → part (get_or m j zero_motion) ≡ unused)
      → (k : ℕ) → k < 4 → get_or (merged_list list_of) k zero_prediction ≡ part (get_or m k zero_motion)
  list-leaves one empty k h =
      merged-leaves list_of k h (λ j l. ap reference (in_list j l) ∙ (one j l ∙ sym (ap reference (in_list 0 (omega arith)))))
      (λ u. in_list k h ∙ empty k h (ap (λ (e : Prediction). used e.reference) (sym (in_list k h)) ∙ u))
      ∙ in_list k h
    where
      reference : Prediction → ℤ
      reference e = e.reference

  -- what merging makes of it: all four have r, and what holds of the four, and of an unused list, holds of each
  module _ (merges : (k : ℕ) → k < 4 → part (get_or (merged m) k zero_motion) ≡ get_or (merged_list list_of) k zero_prediction) where
    list-reference : (k : ℕ) → k < 4 → (part (get_or (merged m) k zero_motion)).reference ≡ lowest list_of
    list-reference k h = ap (λ (e : Prediction). e.reference) (merges k h) ∙ merged-reference list_of k h

    list-one : (k : ℕ) → k < 4 → (part (get_or (merged m) k zero_motion)).reference ≡ (part (get_or (merged m) 0 zero_motion)).reference
    list-one k h = list-reference k h ∙ sym (list-reference 0 (omega arith))

    list-unused : (k : ℕ) → k < 4 → used (part (get_or (merged m) k zero_motion)).reference ≡ false → part (get_or (merged m) k zero_motion) ≡ unused
    list-unused k h e = merges k h ∙ merged-none list_of k h (ap used (sym (list-reference k h)) ∙ e)

    list-keeps : (P : Prediction → Type 0) → P unused → ((j : ℕ) → j < 4 → P (part (get_or m j zero_motion))) → (k : ℕ) → k < 4 → P (part (get_or (merged m) k zero_motion))
    list-keeps P n a k h = subst P (sym (merges k h)) (merged_keeps list_of k h P n (λ j l. subst P (sym (in_list j l)) (a j l)))

    list-uses : used (part (get_or m 0 zero_motion)).reference ≡ true → (k : ℕ) → k < 4 → used (part (get_or (merged m) k zero_motion)).reference ≡ true
    list-uses u k h = ap used (list-reference k h) ∙ (lowest-under list_of 0 (omega arith) u).0

-- both
module _ (m : List Motion) where
  abbrev first : Motion → Prediction
  first x = x.list0

  abbrev second : Motion → Prediction
  second x = x.list1

  merged-is : (k : ℕ) → k < 4 → get_or (merged m) k zero_motion ≡ record { list0 = get_or (merged_list (list_of first m)) k zero_prediction; list1 = get_or (merged_list (list_of second m)) k zero_prediction }
  unfolding merged
  merged-is = four-at (λ j. record { list0 = get_or (merged_list (list_of first m)) j zero_prediction; list1 = get_or (merged_list (list_of second m)) j zero_prediction }) zero_motion

  at0 : (k : ℕ) → k < 4 → (get_or (merged m) k zero_motion).list0 ≡ get_or (merged_list (list_of first m)) k zero_prediction
  at0 k h = ap first (merged-is k h)

  at1 : (k : ℕ) → k < 4 → (get_or (merged m) k zero_motion).list1 ≡ get_or (merged_list (list_of second m)) k zero_prediction
  at1 k h = ap second (merged-is k h)

  merged-settled : Settled (merged m)
  merged-settled = record { one0 = list-one first m at0; one1 = list-one second m at1; zero0 = list-unused first m at0; zero1 = list-unused second m at1 }

  -- merging leaves a quadrant that is settled
  pub settled-merged : Settled m → merged m ≡ four (λ k. get_or m k zero_motion)
  unfolding merged
  settled-merged s = four_same (both 0 (omega arith)) (both 1 (omega arith)) (both 2 (omega arith)) (both 3 (omega arith))
    where
      both : (k : ℕ) → k < 4
          → record { list0 = get_or (merged_list (list_of first m)) k zero_prediction; list1 = get_or (merged_list (list_of second m)) k zero_prediction } ≡ get_or m k zero_motion
      both k h =
          let a = list-leaves first m s.one0 s.zero0 k h in
          let b = list-leaves second m s.one1 s.zero1 k h in
          λ i. record { list0 = a i; list1 = b i }

  merged-both : (P : Prediction → Type 0) → P unused → ((j : ℕ) → j < 4 → Both P (get_or m j zero_motion)) → (k : ℕ) → k < 4 → Both P (get_or (merged m) k zero_motion)
  merged-both P n a k h = (list-keeps first m at0 P n (λ j l. (a j l).0) k h, list-keeps second m at1 P n (λ j l. (a j l).1) k h)

  -- where one block uses a list, each does after merging
  merged-uses : uses_list (get_or m 0 zero_motion) ≡ true → (k : ℕ) → k < 4 → uses_list (get_or (merged m) k zero_motion) ≡ true
  merged-uses u k h =
      ⊎_elim
      (λ v. or_left (used (get_or (merged m) k zero_motion).list1.reference) (list-uses first m at0 v k h))
      (λ v. or_right (used (get_or (merged m) k zero_motion).list0.reference) (list-uses second m at1 v k h))
      (either_true (used (get_or m 0 zero_motion).list0.reference) (used (get_or m 0 zero_motion).list1.reference) u)

-- ---- step 1
module _ (clear : List Bool) (m : List Motion) where
  filled_is : (k : ℕ) → k < 4 → get_or (filled clear m) k zero_motion ≡ get_or m (source clear k) zero_motion
  unfolding filled
  filled_is k h = four-at (λ j. get_or m (source clear j) zero_motion) zero_motion k h

  pub filled_keeps : (P : Motion → Type 0) → ((j : ℕ) → j < 4 → P (get_or m j zero_motion)) → (k : ℕ) → k < 4 → P (get_or (filled clear m) k zero_motion)
  filled_keeps P a k h = subst P (sym (filled_is k h)) (a (source clear k) (source-below clear k h))

  -- where all are clear, step 1 leaves them
  pub filled-leaves : ((k : ℕ) → k < 4 → get_or clear k false ≡ true) → filled clear m ≡ four (λ k. get_or m k zero_motion)
  unfolding filled source
  filled-leaves a =
      let own : (k : ℕ) → k < 4 → get_or m (source clear k) zero_motion ≡ get_or m k zero_motion = λ k h. ap (λ (s : ℕ). get_or m s zero_motion) (yes _ _ (a k h)) in
      four_same (own 0 (omega arith)) (own 1 (omega arith)) (own 2 (omega arith)) (own 3 (omega arith))

  -- where some block is clear, what holds of the clear ones holds of each
  filled-clear : (P : Motion → Type 0) → some_of clear ≡ true → ((j : ℕ) → j < 4 → get_or clear j false ≡ true → P (get_or m j zero_motion)) → (k : ℕ) → k < 4 → P (get_or (filled clear m) k zero_motion)
  filled-clear P e a k h = subst P (sym (filled_is k h)) (a (source clear k) (source-below clear k h) (source-good clear e k h))

-- ---- step 3
pub copied-below : (live : List Bool) (q : ℕ) → q < 4 → copied_from live q < 4
unfolding copied_from
copied-below live q h =
    let Below : ℕ → Type 0 = λ j. j < 4 in
    pick-cases Below _ _ _ (λ _. h)
    (λ _. pick-cases Below _ _ _ (λ _. horizontal-below q h) (λ _. vertical-below q h))

not_dead : (t : Bool) → (t ≡ false → ⊥) → t ≡ true
not_dead true n = refl
not_dead false n = absurd (n refl)

-- the quadrant that is copied is not all intra, unless q and both its neighbours are
copied-live : (live : List Bool) (q : ℕ) → (get_or live q false ≡ false → get_or live (horizontal_neighbour q) false ≡ false → get_or live (vertical_neighbour q) false ≡ false → ⊥)
    → get_or live (copied_from live q) false ≡ true
unfolding copied_from
copied-live live q n =
    let Live : ℕ → Type 0 = λ j. get_or live j false ≡ true in
    pick-cases Live _ _ _ (λ t. t)
    (λ a. pick-cases Live _ _ _ (λ t. t) (λ b. not_dead (get_or live (vertical_neighbour q) false) (n a b)))

-- steps 1 and 2 of quadrant q
abbrev quadrant : ℕ → List (List Motion) → ℕ → List Motion
quadrant set m q = merged (filled (clear_of set q) (get_or m q []))

resolved-is : (set : ℕ) (m : List (List Motion)) (q : ℕ) → q < 4 → get_or (resolved set m) q [] ≡ quadrant set m (copied_from (live_of set) q)
unfolding resolved copied
resolved-is set m q h =
    four-at (λ j. get_or (four (quadrant set m)) (copied_from (live_of set) j) []) [] q h
    ∙ four-at (quadrant set m) [] (copied_from (live_of set) q) (copied-below (live_of set) q h)

pub resolved-settled : (set : ℕ) (m : List (List Motion)) (q : ℕ) → q < 4 → Settled (get_or (resolved set m) q [])
resolved-settled set m q h =
    let j = copied_from (live_of set) q in
    subst Settled (sym (resolved-is set m q h)) (merged-settled (filled (clear_of set j) (get_or m j [])))

-- each list's part of a block after steps 1 to 3 is some block's before them, or unused: what holds of all of these holds of it
pub resolved-keeps : (P : Prediction → Type 0) → P unused → (set : ℕ) (m : List (List Motion)) → ((q k : ℕ) → q < 4 → k < 4 → Both P (at m q k))
    → (q k : ℕ) → q < 4 → k < 4 → Both P (at (resolved set m) q k)
resolved-keeps P n set m a q k h l =
    let j = copied_from (live_of set) q in
    subst (λ (x : List Motion). Both P (get_or x k zero_motion)) (sym (resolved-is set m q h))
    (merged-both (filled (clear_of set j) (get_or m j [])) P n
    (filled_keeps (clear_of set j) (get_or m j []) (Both P) (λ i. a j i (copied-below (live_of set) q h))) k l)

-- ---- at most eight in the set
-- the bits of a number, from bit i
sum_from : ℕ → ℕ → ℕ → ℕ
sum_from zero i n = 0
sum_from (suc k) i n = n / 2 ^ i % 2 + sum_from k (suc i) n

halved : (n i : ℕ) → n / 2 ^ i / 2 ≡ n / 2 ^ suc i
halved n i = div-div-eq-div-mul n (2 ^ i) 2 ∙ ap (λ (d : ℕ). n / d) (sym (pow-suc 2 i))

ones-sum : (k i n : ℕ) → n / 2 ^ i < 2 ^ k → ones (n / 2 ^ i) ≡ sum_from k i n
unfolding sum_from
ones-sum zero i n h = let z = ones-le 0 (n / 2 ^ i) h in omega arith
ones-sum (suc k) i n h =
    let p : n / 2 ^ i < 2 ^ k * 2 = subst (λ (x : ℕ). n / 2 ^ i < x) (pow-suc 2 k) h in
    let q : n / 2 ^ i / 2 < 2 ^ k = omega arith in
    let r : n / 2 ^ suc i < 2 ^ k = subst (λ (x : ℕ). x < 2 ^ k) (halved n i) q in
    ones_step (n / 2 ^ i) ∙ ap (λ (x : ℕ). n / 2 ^ i % 2 + x) (ap ones (halved n i) ∙ ones-sum k (suc i) n r)

sixteen-bits : (set : ℕ) → set < 65536 → ones set ≡ sum_from 16 0 set
sixteen-bits set h = ap ones (sym (div-one set)) ∙ ones-sum 16 0 set (subst (λ (x : ℕ). x < 65536) (sym (div-one set)) h)

-- how many blocks of quadrant q are in the set
in_quadrant : ℕ → ℕ → ℕ
in_quadrant set q = set / 2 ^ raster_of q 0 % 2 + (set / 2 ^ raster_of q 1 % 2 + (set / 2 ^ raster_of q 2 % 2 + set / 2 ^ raster_of q 3 % 2))

regroup : (a b c d e f g h i j k l w x y z : ℕ) → a + (b + (c + (d + (e + (f + (g + (h + (i + (j + (k + (l + (w + (x + (y + (z + 0)))))))))))))))
    ≡ (a + (b + (e + f))) + ((c + (d + (g + h))) + ((i + (j + (w + x))) + (k + (l + (y + z)))))
regroup a b c d e f g h i j k l w x y z = omega arith

by-quadrants : (set : ℕ) → set < 65536 → ones set ≡ in_quadrant set 0 + (in_quadrant set 1 + (in_quadrant set 2 + in_quadrant set 3))
unfolding sum_from in_quadrant
by-quadrants set h = sixteen-bits set h ∙ regroup _ _ _ _ _ _ _ _ _ _ _ _ _ _ _ _

is-marked : (set i : ℕ) → not (marked set i) ≡ false → set / 2 ^ i % 2 ≡ 1
is-marked set i e = eqb-true _ _ (not-false (marked set i) e)

all-marked : (set q : ℕ) → some_of (clear_of set q) ≡ false → in_quadrant set q ≡ 4
unfolding some_of clear_of in_quadrant
all-marked set q e =
    let clear : ℕ → Bool = λ k. not (marked set (raster_of q k)) in
    let x = both_false (clear 0) (clear 1 || (clear 2 || clear 3)) e in
    let y = both_false (clear 1) (clear 2 || clear 3) x.1 in
    let z = both_false (clear 2) (clear 3) y.1 in
    rw (is-marked set (raster_of q 0) x.0, is-marked set (raster_of q 1) y.0, is-marked set (raster_of q 2) z.0, is-marked set (raster_of q 3) z.1)

-- three quadrants all intra are twelve blocks
module _ (set : ℕ) (fits : set < 65536) (few : ones set ≤ 8) where
  live-near : (q : ℕ) → q < 4 → get_or (live_of set) q false ≡ false → get_or (live_of set) (horizontal_neighbour q) false ≡ false → get_or (live_of set) (vertical_neighbour q) false ≡ false → ⊥
  unfolding live_of
  live-near =
      let sum = by-quadrants set fits in
      let all = all-marked set in
      each (λ q. get_or (live_of set) q false ≡ false → get_or (live_of set) (horizontal_neighbour q) false ≡ false → get_or (live_of set) (vertical_neighbour q) false ≡ false → ⊥)
      (λ a b c. omega (arith, sum, all 0 a, all 1 b, all 2 c)) (λ a b c. omega (arith, sum, all 1 a, all 0 b, all 3 c))
      (λ a b c. omega (arith, sum, all 2 a, all 3 b, all 0 c)) (λ a b c. omega (arith, sum, all 3 a, all 2 b, all 1 c))

  copied_some : (q : ℕ) → q < 4 → some_of (clear_of set (copied_from (live_of set) q)) ≡ true
  unfolding live_of
  copied_some q h =
      sym (four-at (λ j. some_of (clear_of set j)) false (copied_from (live_of set) q) (copied-below (live_of set) q h))
      ∙ copied-live (live_of set) q (live-near q h)

  clear-unmarked : (q k : ℕ) → k < 4 → get_or (clear_of set q) k false ≡ true → marked set (raster_of q k) ≡ false
  unfolding clear_of
  clear-unmarked q k h e = not-true (marked set (raster_of q k)) (sym (four-at (λ j. not (marked set (raster_of q j))) false k h) ∙ e)

  -- if each block that reads no intra macroblock uses a list, each block does after steps 1 to 3
  pub resolved-uses : (m : List (List Motion)) → ((q k : ℕ) → q < 4 → k < 4 → marked set (raster_of q k) ≡ false → uses_list (at m q k) ≡ true)
      → (q k : ℕ) → q < 4 → k < 4 → uses_list (at (resolved set m) q k) ≡ true
  resolved-uses m a q k h l =
      let j = copied_from (live_of set) q in
      let first : uses_list (get_or (filled (clear_of set j) (get_or m j [])) 0 zero_motion) ≡ true =
      filled-clear (clear_of set j) (get_or m j []) (λ x. uses_list x ≡ true) (copied_some q h)
      (λ i b e. a j i (copied-below (live_of set) q h) b (clear-unmarked j i b e)) 0 (omega arith) in
      subst (λ (x : List Motion). uses_list (get_or x k zero_motion) ≡ true) (sym (resolved-is set m q h))
      (merged-uses (filled (clear_of set j) (get_or m j [])) first k l)
