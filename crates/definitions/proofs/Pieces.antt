-- The 259 splits: all different, none missing; the number of pieces; pieces cover the sixteen blocks once each. Assumes nothing.
use Prim.Native.Nat.{ℕ, zero, suc, ◌+◌, ◌*◌, ◌<◌}
use mathlib.Core.Path.{◌≡◌, refl, sym, ◌∙◌, ap}
use mathlib.Core.Bool.{true, cond}
use mathlib.Core.List.{List, [], ◌∷◌, ◌++◌, map}
use mathlib.Core.Logic.{◌≢◌, ◌⊎◌, inl, inr}
use native.Mathlib.Decide.{ℕ_discrete}
use native.Mathlib.Nat.{le_of_suc-le-suc, not-suc-le-zero, add-zero, zero-add}
use native.Mathlib.Omega.{arith}
use lib.Dec.{eqb}
use lib.ListN.{length, get_or, length-append, get_or-map}
use borrow.Author.Tests.{eqb-true}
use Rattle.definitions.specs.declared.SubSplit.{SubSplit}
use Rattle.definitions.specs.declared.SubSplit.TheVariants.{S8x8, S8x4, S4x8, S4x4}
use Rattle.definitions.specs.declared.SubSplits.{SubSplits}
use Rattle.definitions.specs.declared.Split.{Split}
use Rattle.definitions.specs.declared.Split.TheVariants.{S16x16, S16x8, S8x16, S8x8 as Quarters}
use Rattle.definitions.specs.Basics.{all_below}
use Rattle.definitions.specs.Splits.{sub_pieces, pieces, sub_count, count, sub_splits, splits, blocks_of, times, Covers}
use Rattle.definitions.specs.Record.{sub_type_number}
use Rattle.definitions.proofs.Choices.{below_true}
use Rattle.definitions.proofs.RecordLists.{joined-each}

-- ---- the list of splits
-- a number for each split: the sub-types are its digits
number : Split → ℕ
number S16x16 = 0
number S16x8 = 1
number S8x16 = 2
number (Quarters t) = 3 + (64 * sub_type_number t.a + 16 * sub_type_number t.b + 4 * sub_type_number t.c + sub_type_number t.d)

up_from : ℕ → ℕ → List ℕ
up_from i zero = []
up_from i (suc n) = i ∷ up_from (suc i) n

numbered : map number splits ≡ up_from 0 259
unfolding number up_from
numbered = refl

pub how-many : length splits ≡ 259
how-many = refl

up_from-at : (i n k : ℕ) → k < n → get_or (up_from i n) k 0 ≡ i + k
unfolding up_from
up_from-at i zero k h = absurd (not-suc-le-zero h)
up_from-at i (suc n) zero h = sym (add-zero i)
up_from-at i (suc n) (suc k) h = up_from-at (suc i) n k (le_of_suc-le-suc h) ∙ omega arith

number_at : (k : ℕ) → k < 259 → number (get_or splits k S16x16) ≡ k
unfolding number
number_at k h =
    sym (get_or-map number splits k S16x16) ∙ (ap (λ (l : List ℕ). get_or l k 0) numbered ∙ (up_from-at 0 259 k h ∙ zero-add k))

pub all-different : (i j : ℕ) → i < 259 → j < 259 → get_or splits i S16x16 ≡ get_or splits j S16x16 → i ≡ j
all-different i j hi hj e = sym (number_at i hi) ∙ (ap number e ∙ number_at j hj)

sub-type-below : (s : SubSplit) → sub_type_number s < 4
sub-type-below S8x8 = omega arith
sub-type-below S8x4 = omega arith
sub-type-below S4x8 = omega arith
sub-type-below S4x4 = omega arith

number-below : (s : Split) → number s < 259
unfolding number
number-below S16x16 = omega arith
number-below S16x8 = omega arith
number-below S8x16 = omega arith
number-below (Quarters t) = omega (arith, sub-type-below t.a, sub-type-below t.b, sub-type-below t.c, sub-type-below t.d)

-- the numbers tell the splits apart: back from a number
sub_split_at : ℕ → SubSplit
sub_split_at n = get_or sub_splits n S8x8

sub_split-back : (s : SubSplit) → sub_split_at (sub_type_number s) ≡ s
unfolding sub_split_at
sub_split-back S8x8 = refl
sub_split-back S8x4 = refl
sub_split-back S4x8 = refl
sub_split-back S4x4 = refl

sub-type-same : (s t : SubSplit) → sub_type_number s ≡ sub_type_number t → s ≡ t
sub-type-same s t e = sym (sub_split-back s) ∙ (ap sub_split_at e ∙ sub_split-back t)

quarters-same : (t u : SubSplits) → number (Quarters t) ≡ number (Quarters u) → Quarters t ≡ Quarters u
unfolding number
quarters-same t u e =
    let ta = sub-type-below t.a in
    let tb = sub-type-below t.b in
    let tc = sub-type-below t.c in
    let td = sub-type-below t.d in
    let ua = sub-type-below u.a in
    let ub = sub-type-below u.b in
    let uc = sub-type-below u.c in
    let ud = sub-type-below u.d in
    let ea = sub-type-same t.a u.a (omega arith) in
    let eb = sub-type-same t.b u.b (omega arith) in
    let ec = sub-type-same t.c u.c (omega arith) in
    let ed = sub-type-same t.d u.d (omega arith) in
    λ i. Quarters (record { a = ea i; b = eb i; c = ec i; d = ed i })

number_same : (s t : Split) → number s ≡ number t → s ≡ t
unfolding number
number_same S16x16 S16x16 e = refl
number_same S16x16 S16x8 e = absurd (omega arith)
number_same S16x16 S8x16 e = absurd (omega arith)
number_same S16x16 (Quarters u) e = absurd (omega arith)
number_same S16x8 S16x16 e = absurd (omega arith)
number_same S16x8 S16x8 e = refl
number_same S16x8 S8x16 e = absurd (omega arith)
number_same S16x8 (Quarters u) e = absurd (omega arith)
number_same S8x16 S16x16 e = absurd (omega arith)
number_same S8x16 S16x8 e = absurd (omega arith)
number_same S8x16 S8x16 e = refl
number_same S8x16 (Quarters u) e = absurd (omega arith)
number_same (Quarters t) S16x16 e = absurd (omega arith)
number_same (Quarters t) S16x8 e = absurd (omega arith)
number_same (Quarters t) S8x16 e = absurd (omega arith)
number_same (Quarters t) (Quarters u) e = quarters-same t u e

-- two splits are the same or not
pub split-cases : (s t : Split) → (s ≡ t) ⊎ (s ≢ t)
split-cases s t = by (ℕ_discrete (number s) (number t))
  where
    by : Dec (number s ≡ number t) → (s ≡ t) ⊎ (s ≢ t)
    by (yes e) = inl (number_same s t e)
    by (no n) = inr (λ e. n (ap number e))

-- no split is missing
pub all_listed : (s : Split) → (k : ℕ) × (k < 259) × (get_or splits k S16x16 ≡ s)
all_listed s = (number s, number-below s, number_same _ _ (number_at (number s) (number-below s)))

-- ---- the number of pieces is the length of their list
sub-length : (i : ℕ) (s : SubSplit) → length (sub_pieces i s) ≡ sub_count s
sub-length i S8x8 = refl
sub-length i S8x4 = refl
sub-length i S4x8 = refl
sub-length i S4x4 = refl

pub count-is : (s : Split) → length (pieces s) ≡ count s
count-is S16x16 = refl
count-is S16x8 = refl
count-is S8x16 = refl
count-is (Quarters t) = simp (length-append, sub-length) (omega arith)

-- ---- pieces cover the sixteen blocks once each
blocks-join : (xs ys : List (List ℕ)) → blocks_of (xs ++ ys) ≡ blocks_of xs ++ blocks_of ys
blocks-join = joined-each (λ p. p)

times-join : (i : ℕ) (xs ys : List ℕ) → times i (xs ++ ys) ≡ times i xs + times i ys
times-join i [] ys = sym (zero-add (times i ys))
times-join i (x ∷ xs) ys = ap (λ (n : ℕ). cond (eqb i x) 1 0 + n) (times-join i xs ys) ∙ omega arith

-- the blocks of a quadrant, in any of its sub-splits
sub-times : (i o : ℕ) (s : SubSplit) → times i (blocks_of (sub_pieces o s)) ≡ times i (o ∷ (o + 1) ∷ (o + 4) ∷ (o + 5) ∷ [])
sub-times i o S8x8 = refl
sub-times i o S8x4 = refl
sub-times i o S4x8 = omega arith
sub-times i o S4x4 = refl

sub-blocks : (o : ℕ) (s : SubSplit) → length (blocks_of (sub_pieces o s)) ≡ 4
sub-blocks o S8x8 = refl
sub-blocks o S8x4 = refl
sub-blocks o S4x8 = refl
sub-blocks o S4x4 = refl

abbrev in_quadrants : ℕ → ℕ
in_quadrants i = times i (0 ∷ 1 ∷ 4 ∷ 5 ∷ []) + (times i (2 ∷ 3 ∷ 6 ∷ 7 ∷ []) + (times i (8 ∷ 9 ∷ 12 ∷ 13 ∷ []) + times i (10 ∷ 11 ∷ 14 ∷ 15 ∷ [])))

quarters-times : (i : ℕ) (t : SubSplits) → times i (blocks_of (pieces (Quarters t))) ≡ in_quadrants i
quarters-times i t = simp (blocks-join, times-join, sub-times)

-- by one computed test
once_by : (f : ℕ → ℕ) → all_below 16 (λ i. eqb (f i) 1) ≡ true → (i : ℕ) → i < 16 → f i ≡ 1
once_by f e i h = eqb-true _ _ (below_true 16 (λ k. eqb (f k) 1) e i h)

pub covered : (s : Split) → Covers (pieces s)
unfolding all_below
covered S16x16 = record { once = once_by (λ i. times i (blocks_of (pieces S16x16))) refl; sixteen = refl }
covered S16x8 = record { once = once_by (λ i. times i (blocks_of (pieces S16x8))) refl; sixteen = refl }
covered S8x16 = record { once = once_by (λ i. times i (blocks_of (pieces S8x16))) refl; sixteen = refl }
covered (Quarters t) = record {
  once = λ i h. quarters-times i t ∙ once_by in_quadrants refl i h;
  sixteen = simp (blocks-join, length-append, sub-blocks);
}
