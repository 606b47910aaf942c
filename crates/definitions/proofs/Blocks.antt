-- The pieces of a split hold blocks 0 to 15 alone, so motions that agree there carry one motion in the same splits. Assumes nothing.
use Prim.Native.Nat.{ℕ, ◌<◌}
use mathlib.Core.Path.{◌≡◌, refl}
use mathlib.Core.Bool.{Bool, true, ◌&&◌}
use mathlib.Core.List.{List, [], ◌∷◌, ◌++◌}
use lib.Dec.{ltb}
use borrow.Author.Tests.{ltb-true}
use Rattle.definitions.specs.declared.Motion.{Motion}
use Rattle.definitions.specs.declared.SubSplit.{SubSplit}
use Rattle.definitions.specs.declared.SubSplit.TheVariants.{S8x8, S8x4, S4x8, S4x4}
use Rattle.definitions.specs.declared.Split.{Split}
use Rattle.definitions.specs.declared.Split.TheVariants.{S16x16, S16x8, S8x16, S8x8 as Quarters}
use Rattle.definitions.specs.Basics.{all_of}
use Rattle.definitions.specs.Splits.{same_motion, sub_pieces, pieces, alike, one_each}
use Rattle.definitions.proofs.Choices.{both_true, and_intro}

-- ---- each block of a piece is below 16
abbrev below16 : List ℕ → Bool
below16 p = all_of (λ i. ltb i 16) p

joined-all : {A : Type 0} (f : A → Bool) (xs ys : List A) → all_of f xs ≡ true → all_of f ys ≡ true → all_of f (xs ++ ys) ≡ true
unfolding all_of
joined-all f [] ys p q = q
joined-all f (x ∷ xs) ys p q =
    let h = both_true (f x) (all_of f xs) p in
    and_intro h.0 (joined-all f xs ys h.1 q)

-- the first blocks of the four quadrants
data First : ℕ → Type 0 where
  zeroth : First 0
  second : First 2
  eighth : First 8
  tenth : First 10

sub-below : {i : ℕ} → First i → (s : SubSplit) → all_of below16 (sub_pieces i s) ≡ true
unfolding all_of
sub-below zeroth S8x8 = refl
sub-below zeroth S8x4 = refl
sub-below zeroth S4x8 = refl
sub-below zeroth S4x4 = refl
sub-below second S8x8 = refl
sub-below second S8x4 = refl
sub-below second S4x8 = refl
sub-below second S4x4 = refl
sub-below eighth S8x8 = refl
sub-below eighth S8x4 = refl
sub-below eighth S4x8 = refl
sub-below eighth S4x4 = refl
sub-below tenth S8x8 = refl
sub-below tenth S8x4 = refl
sub-below tenth S4x8 = refl
sub-below tenth S4x4 = refl

pieces-below : (s : Split) → all_of below16 (pieces s) ≡ true
unfolding all_of
pieces-below S16x16 = refl
pieces-below S16x8 = refl
pieces-below S8x16 = refl
pieces-below (Quarters t) =
    let c : List (List ℕ) = sub_pieces 8 t.c ++ sub_pieces 10 t.d in
    joined-all below16 (sub_pieces 0 t.a) (sub_pieces 2 t.b ++ c) (sub-below zeroth t.a)
    (joined-all below16 (sub_pieces 2 t.b) c (sub-below second t.b)
    (joined-all below16 (sub_pieces 8 t.c) (sub_pieces 10 t.d) (sub-below eighth t.c) (sub-below tenth t.d)))

-- ---- motions that agree on the sixteen blocks
module _ (m n : ℕ → Motion) (same : (i : ℕ) → i < 16 → m i ≡ n i) where
  like-same : (i : ℕ) → i < 16 → (is : List ℕ) → below16 is ≡ true → all_of (λ j. same_motion (m j) (m i)) is ≡ all_of (λ j. same_motion (n j) (n i)) is
  unfolding all_of
  like-same i h [] e = refl
  like-same i h (j ∷ js) e =
      let b = both_true (ltb j 16) (below16 js) e in
      let p : m j ≡ n j = same j (ltb-true j 16 b.0) in
      let q : m i ≡ n i = same i h in
      let r = like-same i h js b.1 in
      λ k. same_motion (p k) (q k) && r k

  alike_same : (p : List ℕ) → below16 p ≡ true → alike m p ≡ alike n p
  unfolding alike all_of
  alike_same [] e = refl
  alike_same (i ∷ is) e =
      let b = both_true (ltb i 16) (below16 is) e in
      like-same i (ltb-true i 16 b.0) is b.1

  all_same : (ps : List (List ℕ)) → all_of below16 ps ≡ true → all_of (alike m) ps ≡ all_of (alike n) ps
  unfolding all_of
  all_same [] e = refl
  all_same (p ∷ ps) e =
      let b = both_true (below16 p) (all_of below16 ps) e in
      let q = alike_same p b.0 in
      let r = all_same ps b.1 in
      λ k. q k && r k

  pub one_same : (s : Split) → one_each m s ≡ one_each n s
  unfolding one_each
  one_same s = all_same (pieces s) (pieces-below s)
