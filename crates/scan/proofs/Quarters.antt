-- A record of type 4 is well formed where it keeps rules 2 to 4, and its quadrants rules 5 and 6. Assumes nothing.
use Prim.Native.Nat.{ℕ, ◌+◌, ◌*◌, ◌/◌, ◌%◌, ◌<◌}
use mathlib.Core.Path.{◌≡◌, refl, sym, ap, ◌∙◌, subst}
use mathlib.Core.Bool.{Bool, true, false, not, ◌&&◌, ◌||◌, true≢false}
use mathlib.Core.List.{List}
use native.Mathlib.Omega.{arith}
use lib.Dec.{eqb}
use lib.IntN.{ℤ, pos}
use Rattle.definitions.specs.declared.SubSplit.{SubSplit}
use Rattle.definitions.specs.declared.SubSplit.TheVariants.{S8x8, S8x4, S4x8, S4x4}
use Rattle.definitions.specs.declared.SubSplits.{SubSplits}
use Rattle.definitions.specs.declared.Split.{Split}
use Rattle.definitions.specs.declared.Split.TheVariants.{S8x8 as Quarters}
use Rattle.definitions.specs.Basics.{minus, pick, eq_z, between, all_below}
use Rattle.definitions.specs.Blocks.{quadrant_of, in_quadrant, raster_of}
use Rattle.definitions.specs.Record.{type_of, is_intra, sub_type_of, motion_of, sub_split_of, split_said, rule1, rule2, rule3, rule4, rule5, rule6, rule7, first_broken, well_formed}
use Rattle.definitions.specs.Splits.{same_motion}
use Rattle.definitions.proofs.Choices.{no, both_true, both_ways, and_intro, or_left, or_right, eq_z-true, below_true, below-intro, below-same, each}
use Rattle.definitions.proofs.Records.{raster-quadrant, raster-below}
use Rattle.records.specs.Checking.{all_within, quadrant_used, list_right, vectors_right, sub_first_block, sub_split_at, first_block_of, first_block_in, same_references, same_vectors}
use Rattle.records.proofs.Ranges.{sub-types-any, references, use-each, vectors-all}
use Rattle.records.proofs.FirstBlocks.{first_place, sub-first-is, motion-parts, as_first, same-all}
use Rattle.records.proofs.Searches.{below_both, by-quadrants}
use Rattle.scan.specs.Quick.{sub_as_first, quadrant_right}
use Rattle.scan.proofs.Alike.{references-self, Alike, alike, alike_same, alike_self, alike-back, alike_then}

or-false : (a : Bool) → (a || false) ≡ true → a ≡ true
or-false true e = refl
or-false false e = e

-- ---- The blocks of a quadrant
module _ (r : List ℤ) (q : ℕ) (hq : q < 4) where
  -- block k of the quadrant
  abbrev block_at : ℕ → ℕ
  block_at k = raster_of q k

  abbrev Rows : Type 0
  Rows = Alike r (block_at 1) (block_at 0) × Alike r (block_at 3) (block_at 2)

  abbrev Columns : Type 0
  Columns = Alike r (block_at 2) (block_at 0) × Alike r (block_at 3) (block_at 1)

  -- they have the vectors of the first of their sub-partition
  abbrev AsPlace : SubSplit → ℕ → Type 0
  AsPlace s k = Alike r (block_at k) (block_at (first_place (motion_of r) s k))

  abbrev AsPlaces : SubSplit → Type 0
  AsPlaces s = (k : ℕ) → k < 4 → AsPlace s k

  as-8x8 : Rows → Columns → AsPlaces S8x8
  as-8x8 rows columns = each (AsPlace S8x8) (alike_self r (block_at 0)) rows.0 columns.0 (alike_then r (block_at 3) (block_at 1) (block_at 0) columns.1 rows.0)

  as-8x4 : Rows → AsPlaces S8x4
  as-8x4 rows = each (AsPlace S8x4) (alike_self r (block_at 0)) rows.0 (alike_self r (block_at 2)) rows.1

  as-4x8 : Columns → AsPlaces S4x8
  as-4x8 columns = each (AsPlace S4x8) (alike_self r (block_at 0)) (alike_self r (block_at 1)) columns.0 columns.1

  rows-8x8 : AsPlaces S8x8 → Rows
  rows-8x8 a = (a 1 (omega arith), alike_then r (block_at 3) (block_at 0) (block_at 2) (a 3 (omega arith)) (alike-back r (block_at 2) (block_at 0) (a 2 (omega arith))))

  columns-8x8 : AsPlaces S8x8 → Columns
  columns-8x8 a = (a 2 (omega arith), alike_then r (block_at 3) (block_at 0) (block_at 1) (a 3 (omega arith)) (alike-back r (block_at 1) (block_at 0) (a 1 (omega arith))))

  module _ (sub : SubSplit) (said : sub_split_of (sub_type_of r q) ≡ sub) where
    places_same : AsPlaces sub → sub_as_first r q ≡ true
    unfolding sub_as_first
    places_same a =
        below-intro 4 _ (λ k h.
        ap (λ (s : SubSplit). same_vectors r (block_at k) (sub_first_block s (block_at k))) said
        ∙ alike_same r (block_at k) (sub_first_block sub (block_at k)) (subst (Alike r (block_at k)) (sym (sub-first-is (motion_of r) q k hq h sub)) (a k h)))

    same-places : sub_as_first r q ≡ true → AsPlaces sub
    unfolding sub_as_first
    same-places e k h =
        subst (Alike r (block_at k)) (sub-first-is (motion_of r) q k hq h sub)
        (alike r (block_at k) (sub_first_block sub (block_at k))
        (sym (ap (λ (s : SubSplit). same_vectors r (block_at k) (sub_first_block s (block_at k))) said)
        ∙ below_true 4 (λ k. same_vectors r (block_at k) (sub_first_block (sub_split_of (sub_type_of r q)) (block_at k))) e k h))

  -- rows where the sub-type is 0 or 1, columns where it is 0 or 2
  module _ (rows columns : Bool) (of-rows : rows ≡ true → Rows) (to-rows : Rows → rows ≡ true) (of-columns : columns ≡ true → Columns)
      (to-columns : Columns → columns ≡ true) where
    abbrev asked : Bool → Bool → Bool → Bool
    asked t0 t1 t2 = (rows || (not t0 && not t1)) && (columns || (not t0 && not t2))

    abbrev sub : Bool → Bool → Bool → SubSplit
    sub t0 t1 t2 = pick t0 S8x8 (pick t1 S8x4 (pick t2 S4x8 S4x4))

    asked-places : (t0 t1 t2 : Bool) → (rows || (not t0 && not t1)) ≡ true → (columns || (not t0 && not t2)) ≡ true → AsPlaces (sub t0 t1 t2)
    unfolding pick
    asked-places true t1 t2 e f = as-8x8 (of-rows (or-false rows e)) (of-columns (or-false columns f))
    asked-places false true t2 e f = as-8x4 (of-rows (or-false rows e))
    asked-places false false true e f = as-4x8 (of-columns (or-false columns f))
    asked-places false false false e f = λ k h. alike_self r (block_at k)

    places-asked : (t0 t1 t2 : Bool) → (t1 ≡ true → t2 ≡ false) → AsPlaces (sub t0 t1 t2) → asked t0 t1 t2 ≡ true
    unfolding pick
    places-asked true t1 t2 one a = and_intro (or_left _ (to-rows (rows-8x8 a))) (or_left _ (to-columns (columns-8x8 a)))
    places-asked false true true one a = absurd (true≢false (one refl))
    places-asked false true false one a = and_intro (or_left _ (to-rows (a 1 (omega arith), a 3 (omega arith)))) (or_right columns refl)
    places-asked false false true one a = and_intro (or_right rows refl) (or_left _ (to-columns (a 2 (omega arith), a 3 (omega arith))))
    places-asked false false false one a = and_intro (or_right rows refl) (or_right columns refl)

    abbrev t : ℕ → Bool
    t n = eq_z (sub_type_of r q) (pos n)

    by-sub-type : asked (t 0) (t 1) (t 2) ≡ sub_as_first r q
    by-sub-type =
        both_ways _ _
        (λ e. let both = both_true _ _ e in places_same (sub (t 0) (t 1) (t 2)) refl (asked-places (t 0) (t 1) (t 2) both.0 both.1))
        (λ e.
        places-asked (t 0) (t 1) (t 2) (λ one. ap (λ (z : ℤ). eq_z z (pos 2)) (eq_z-true (sub_type_of r q) (pos 1) one)) (same-places (sub (t 0) (t 1) (t 2)) refl e))

  -- the tests of the words; i is the quadrant's first block
  abbrev i : ℕ
  i = 8 * (q / 2) + 2 * (q % 2)

  b0 : block_at 0 ≡ i
  b0 = each (λ q. raster_of q 0 ≡ 8 * (q / 2) + 2 * (q % 2)) refl refl refl refl q hq

  b1 : block_at 1 ≡ i + 1
  b1 = each (λ q. raster_of q 1 ≡ 8 * (q / 2) + 2 * (q % 2) + 1) refl refl refl refl q hq

  b2 : block_at 2 ≡ i + 4
  b2 = each (λ q. raster_of q 2 ≡ 8 * (q / 2) + 2 * (q % 2) + 4) refl refl refl refl q hq

  b3 : block_at 3 ≡ i + 5
  b3 = each (λ q. raster_of q 3 ≡ 8 * (q / 2) + 2 * (q % 2) + 5) refl refl refl refl q hq

  of_test : (b d v w : ℕ) → b ≡ v → d ≡ w → same_vectors r v w ≡ true → Alike r d b
  of_test b d v w e f s = alike-back r b d (alike r b d ((λ j. same_vectors r (e j) (f j)) ∙ s))

  to-test : (b d v w : ℕ) → b ≡ v → d ≡ w → Alike r d b → same_vectors r v w ≡ true
  to-test b d v w e f a = sym (λ j. same_vectors r (e j) (f j)) ∙ alike_same r b d (alike-back r d b a)

  pub quadrant-alike :
      {v01 v23 v02 v13 t0 t1 t2 : Bool} →
      v01 ≡ same_vectors r i (i + 1) → v23 ≡ same_vectors r (i + 4) (i + 5) → v02 ≡ same_vectors r i (i + 4) → v13 ≡ same_vectors r (i + 1) (i + 5) →
      t0 ≡ eq_z (sub_type_of r q) (pos 0) → t1 ≡ eq_z (sub_type_of r q) (pos 1) → t2 ≡ eq_z (sub_type_of r q) (pos 2) →
      (((v01 && v23) || (not t0 && not t1)) && ((v02 && v13) || (not t0 && not t2))) ≡ sub_as_first r q
  quadrant-alike e01 e23 e02 e13 s0 s1 s2 =
      (λ j. ((e01 j && e23 j) || (not (s0 j) && not (s1 j))) && ((e02 j && e13 j) || (not (s0 j) && not (s2 j))))
      ∙ by-sub-type (same_vectors r i (i + 1) && same_vectors r (i + 4) (i + 5)) (same_vectors r i (i + 4) && same_vectors r (i + 1) (i + 5))
      (λ h. let p = both_true _ _ h in (of_test (block_at 0) (block_at 1) i (i + 1) b0 b1 p.0, of_test (block_at 2) (block_at 3) (i + 4) (i + 5) b2 b3 p.1))
      (λ a. and_intro (to-test (block_at 0) (block_at 1) i (i + 1) b0 b1 a.0) (to-test (block_at 2) (block_at 3) (i + 4) (i + 5) b2 b3 a.1))
      (λ h. let p = both_true _ _ h in (of_test (block_at 0) (block_at 2) i (i + 4) b0 b2 p.0, of_test (block_at 1) (block_at 3) (i + 1) (i + 5) b1 b3 p.1))
      (λ a. and_intro (to-test (block_at 0) (block_at 2) i (i + 4) b0 b2 a.0) (to-test (block_at 1) (block_at 3) (i + 1) (i + 5) b1 b3 a.1))

  pub quadrant-is :
      (limit : ℕ) {v0 v1 v4 v5 same : Bool} →
      v0 ≡ all_below 2 (list_right limit r i) → v1 ≡ all_below 2 (list_right limit r (i + 1)) → v4 ≡ all_below 2 (list_right limit r (i + 4)) → v5 ≡ all_below 2 (list_right limit r (i + 5)) →
      same ≡ sub_as_first r q → ((((v0 && v1) && v4) && v5) && same) ≡ quadrant_right limit r q
  unfolding quadrant_right vectors_right all_below
  quadrant-is limit e0 e1 e4 e5 s =
      (λ j. (((e0 j && e1 j) && e4 j) && e5 j) && s j)
      ∙ sym (λ j. (((block (b0 j) && block (b1 j)) && block (b2 j)) && block (b3 j)) && sub_as_first r q)
    where
      block : ℕ → Bool
      block b = all_below 2 (list_right limit r b)

-- ---- A block has the motion of the first block of its sub-partition where it has its vectors
sub-quadrant : (s : SubSplit) (b : ℕ) → b < 16 → quadrant_of (sub_first_block s b) ≡ quadrant_of b
sub-quadrant S8x8 b h = raster-quadrant (quadrant_of b) 0 (omega arith) (omega arith)
sub-quadrant S8x4 b h = raster-quadrant (quadrant_of b) (in_quadrant b / 2 * 2) (omega arith) (omega arith)
sub-quadrant S4x8 b h = raster-quadrant (quadrant_of b) (in_quadrant b % 2) (omega arith) (omega arith)
sub-quadrant S4x4 b h = refl

module _ (r : List ℤ) where
  sub-motion : (s : SubSplit) (b : ℕ) → b < 16 → same_motion (motion_of r b) (motion_of r (sub_first_block s b)) ≡ same_vectors r b (sub_first_block s b)
  sub-motion s b h =
      let one = ap (same_references r (quadrant_of b)) (sub-quadrant s b h) ∙ references-self r (quadrant_of b) in
      motion-parts r b (sub_first_block s b) ∙ ap (λ (t : Bool). t && same_vectors r b (sub_first_block s b)) one

-- ---- The record
-- rules 2 to 4, and then 5 and 6, where 1 and 7 are kept
head-and-tail :
    (b c d e f : Bool) →
    (((b && c) && d) && (e && f))
    ≡ eqb (pick (not true) 1 (pick (not b) 2 (pick (not c) 3 (pick (not d) 4 (pick (not e) 5 (pick (not f) 6 (pick (not true) 7 0))))))) 0
unfolding pick
head-and-tail false c d e f = refl
head-and-tail true false d e f = refl
head-and-tail true true false e f = refl
head-and-tail true true true false f = refl
head-and-tail true true true true false = refl
head-and-tail true true true true true = refl

module _ (limit : ℕ) (r : List ℤ) (quarters : eq_z (type_of r) (pos 4) ≡ true) (seven : rule7 r ≡ true) where
  type : type_of r ≡ pos 4
  type = eq_z-true (type_of r) (pos 4) quarters

  abbrev said : SubSplits
  said = record { a = sub_split_of (sub_type_of r 0); b = sub_split_of (sub_type_of r 1); c = sub_split_of (sub_type_of r 2); d = sub_split_of (sub_type_of r 3) }

  split : split_said r ≡ Quarters said
  unfolding split_said
  split = no _ _ (ap (λ (z : ℤ). eq_z z (pos 1)) type) ∙ (no _ _ (ap (λ (z : ℤ). eq_z z (pos 2)) type) ∙ no _ _ (ap (λ (z : ℤ). eq_z z (pos 3)) type))

  sub_at : (q : ℕ) → q < 4 → sub_split_at said q ≡ sub_split_of (sub_type_of r q)
  sub_at = each (λ q. sub_split_at said q ≡ sub_split_of (sub_type_of r q)) refl refl refl refl

  first-is : (q k : ℕ) → q < 4 → k < 4 → first_block_of r (raster_of q k) ≡ sub_first_block (sub_split_of (sub_type_of r q)) (raster_of q k)
  unfolding first_block_of
  first-is q k hq hk =
      no _ _ (ap (λ (z : ℤ). eq_z z (pos 0)) type)
      ∙ (ap (λ (s : Split). first_block_in s (raster_of q k)) split
      ∙ ap (λ (s : SubSplit). sub_first_block s (raster_of q k)) (ap (sub_split_at said) (raster-quadrant q k hq hk) ∙ sub_at q hq))

  sub-as-first : (q : ℕ) → q < 4 → all_below 4 (λ k. as_first r (raster_of q k)) ≡ sub_as_first r q
  unfolding sub_as_first
  sub-as-first q hq =
      below-same 4 _ _ (λ k hk.
      ap (λ (d : ℕ). same_motion (motion_of r (raster_of q k)) (motion_of r d)) (first-is q k hq hk)
      ∙ sub-motion r (sub_split_of (sub_type_of r q)) (raster_of q k) (raster-below q k hq hk))

  tail : all_below 4 (quadrant_right limit r) ≡ (rule5 limit r && rule6 r)
  unfolding quadrant_right
  tail =
      let e5 = vectors-all limit r in
      let e6 = same-all r ∙ (by-quadrants (as_first r) ∙ below-same 4 (λ q. all_below 4 (λ k. as_first r (raster_of q k))) (sub_as_first r) sub-as-first) in
      sym ((λ i. e5 i && e6 i) ∙ below_both 4 (vectors_right limit r) (sub_as_first r) (quadrant_right limit r) (λ k. refl))

  one : rule1 r ≡ true
  unfolding rule1
  one = ap (between (pos 0) (pos 4)) type

  pub quarters-is : (((rule2 r && rule3 r) && rule4 r) && all_below 4 (quadrant_right limit r)) ≡ well_formed limit r
  unfolding first_broken
  quarters-is =
      ap (λ (t : Bool). ((rule2 r && rule3 r) && rule4 r) && t) tail ∙ (head-and-tail (rule2 r) (rule3 r) (rule4 r) (rule5 limit r) (rule6 r)
      ∙ sym (λ i. eqb (pick (not (one i)) 1 (pick (not (rule2 r)) 2 (pick (not (rule3 r)) 3 (pick (not (rule4 r)) 4 (pick (not (rule5 limit r)) 5
      (pick (not (rule6 r)) 6 (pick (not (seven i)) 7 0))))))) 0))

-- rules 2 to 4 by their words
pub head-is :
    (r : List ℤ) → eq_z (type_of r) (pos 4) ≡ true → {s t u0 u1 u2 u3 : Bool} →
    s ≡ all_within r 1 4 (pos 0) (pos 3) → t ≡ all_within r 5 8 (minus 1) (pos 31) →
    u0 ≡ quadrant_used r 0 → u1 ≡ quadrant_used r 1 → u2 ≡ quadrant_used r 2 → u3 ≡ quadrant_used r 3 →
    ((s && t) && (((u0 && u1) && u2) && u3)) ≡ ((rule2 r && rule3 r) && rule4 r)
unfolding all_below
head-is r quarters e2 e3 u0 u1 u2 u3 =
    let inter : is_intra r ≡ false = ap (λ (z : ℤ). eq_z z (pos 0)) (eq_z-true (type_of r) (pos 4) quarters) in
    let s2 = e2 ∙ sym (sub-types-any r quarters) in
    let s3 = e3 ∙ sym (references r) in
    let s4 : (((quadrant_used r 0 && quadrant_used r 1) && quadrant_used r 2) && quadrant_used r 3) ≡ rule4 r = sym (use-each r inter) in
    (λ i. (s2 i && s3 i) && (((u0 i && u1 i) && u2 i) && u3 i)) ∙ ap (λ (t : Bool). (rule2 r && rule3 r) && t) s4
