-- The motions that the blocks read: they can be merged and written, by quadrants and after steps 1 to 3. Assumes nothing.
use Prim.Native.Nat.{ℕ, ◌+◌, ◌*◌, ◌/◌, ◌%◌, ◌<◌}
use mathlib.Core.Path.{◌≡◌, refl, sym, ap, subst, ◌∙◌}
use mathlib.Core.Bool.{Bool, true, false, not, ◌&&◌, ◌||◌}
use mathlib.Core.List.{List, [], ◌∷◌}
use native.Mathlib.Omega.{arith}
use lib.IntN.{ℤ, pos}
use lib.Dec.{eqb}
use lib.ListN.{get_or}
use borrow.Author.Tests.{eqb-true}
use Rattle.definitions.specs.declared.Prediction.{Prediction}
use Rattle.definitions.specs.declared.Motion.{Motion}
use Rattle.motion.specs.declared.BlockMotion.{BlockMotion}
use Rattle.gather.specs.declared.Spot.{Spot}
use Rattle.definitions.specs.Basics.{all_below, minus, between, eq_z, four, pick, some_of}
use Rattle.definitions.specs.Blocks.{quadrant_of}
use Rattle.definitions.specs.Inheriting.{clear_of, copied, copied_from, filled, live_of, marked, merged, resolved, source, zero_motion}
use Rattle.definitions.specs.Record.{fits, is_intra, used, motion_of, record_at, reference_of, rule3, vector_word}
use Rattle.definitions.proofs.Choices.{below_true, both_true, eq_z-true, each, four-at, four_same}
use Rattle.definitions.proofs.Formed.{Vectors, rules-of, vectors-of}
use Rattle.definitions.proofs.Sets.{bit_is}
use Rattle.definitions.proofs.Steps.{Both, filled_keeps, filled-leaves, not-used, settled-merged}
use Rattle.motion.specs.ByValue.{AllReferring, Reference, motion_in, motions_in, zero_block}
use Rattle.motion.specs.Range.{InRange}
use Rattle.quadrant.specs.Merging.{Empty, AllEmpty}
use Rattle.gather.specs.Reads.{Readable, ReadableAt, across_of, address_at, block_at, block_from, down_of, gathered_by, motion_read, quadrant_from, record_read, set_by}
use Rattle.gather.proofs.Places.{place_in, spot-read}
use Rattle.macroblock.specs.Quadrants.{Alike, Mergeable, plain_at}

-- ---- The records that a quadrant's blocks read, whose columns read x0 and x1 and whose rows y0 and y1, and the motions that they read
abbrev QuadrantReadable : ℕ → ℕ → List ℤ → ℕ → ℕ → ℕ → ℕ → Type 0
QuadrantReadable limit width base x0 x1 y0 y1 = ReadableAt limit width base x0 y0 × ReadableAt limit width base x1 y0 × ReadableAt limit width base x0 y1 × ReadableAt limit width base x1 y1

abbrev quadrant_read : ℕ → List ℤ → ℕ → ℕ → ℕ → ℕ → List Motion
quadrant_read width base x0 x1 y0 y1 = motion_read width base x0 y0 ∷ motion_read width base x1 y0 ∷ motion_read width base x0 y1 ∷ motion_read width base x1 y1 ∷ []

-- ---- a motion that is read
zero_word : (t : Bool) (z : ℤ) → t ≡ false → (t || eq_z z (pos 0)) ≡ true → z ≡ pos 0
zero_word true z f e = cc
zero_word false z f e = eq_z-true z (pos 0) e

empty : (limit : ℕ) (p : Prediction) → vector_word limit (used p.reference) p.x ≡ true → vector_word limit (used p.reference) p.y ≡ true → Empty p
empty limit p a b u =
    let word : (z : ℤ) → vector_word limit (used p.reference) z ≡ true → z ≡ pos 0 =
    λ z e. zero_word (used p.reference) z u (both_true (fits limit z) (used p.reference || eq_z z (pos 0)) e).1 in
    let r = not-used p.reference u in
    let x = word p.x a in
    let y = word p.y b in
    λ i. record { reference = r i; x = x i; y = y i }

-- what is kept from a record that is read to the one that is written: a vector in range, a reference as rule 3 asks
pub record Kept (limit : ℕ) (p : Prediction) : Type 0 where
  pub range : InRange limit p
  pub reference : Reference p.reference

module _ {limit : ℕ} (width : ℕ) (base : List ℤ) (x y : ℕ) (r : ReadableAt limit width base x y) where
  abbrev block : ℕ
  block = block_at x y

  vectors : (l : ℕ) → l < 2 → Vectors limit (record_read width base x y) block l
  vectors l h = vectors-of limit (record_read width base x y) r.formed block l (omega arith) h

  reference-of : (l : ℕ) → l < 2 → Reference (reference_of (record_read width base x y) (quadrant_of block) l)
  unfolding rule3
  reference-of l h =
      let rules = rules-of limit (record_read width base x y) r.formed in
      below_true 2 (λ k. between (minus 1) (pos 31) (reference_of (record_read width base x y) (quadrant_of block) k))
      (below_true 4 (λ q. all_below 2 (λ k. between (minus 1) (pos 31) (reference_of (record_read width base x y) q k))) rules.references (quadrant_of block) (omega arith)) l h

  pub read_kept : Both (Kept limit) (motion_read width base x y)
  unfolding motion_read motion_of
  read_kept =
      let a = vectors 0 (omega arith) in
      let b = vectors 1 (omega arith) in (
        record { range = record { x = (both_true _ _ a.x).0; y = (both_true _ _ a.y).0 }; reference = reference-of 0 (omega arith) },
        record { range = record { x = (both_true _ _ b.x).0; y = (both_true _ _ b.y).0 }; reference = reference-of 1 (omega arith) },
      )

  pub read-empty : Both Empty (motion_read width base x y)
  unfolding motion_read motion_of
  read-empty = (empty limit (motion_read width base x y).list0 (vectors 0 (omega arith)).x (vectors 0 (omega arith)).y, empty limit (motion_read width base x y).list1 (vectors 1 (omega arith)).x (vectors 1 (omega arith)).y)

-- ---- a quadrant, at two columns and two rows
module _ (base : List ℤ) (left right upper lower : Spot) (ready : Mergeable base left right upper lower) where
  abbrev read : List BlockMotion
  read = quadrant_from base left right upper lower

  -- where references stand in one place nothing is to merge
  pub plain-merged : plain_at left right upper lower ≡ true → motions_in read ≡ merged (motions_in read)
  plain-merged e =
      let both = both_true _ _ e in
      let p = eqb-true left.references right.references both.0 in
      let q = eqb-true upper.references lower.references both.1 in
      sym (settled-merged (motions_in read) (record {
        one0 = each _ refl (λ i. get_or base (sym p i + upper.references) (pos 0)) (λ i. get_or base (left.references + sym q i) (pos 0)) (λ i. get_or base (sym p i + sym q i) (pos 0));
        one1 = each _ refl (λ i. get_or base (sym p i + upper.references + 1) (pos 0)) (λ i. get_or base (left.references + sym q i + 1) (pos 0)) (λ i. get_or base (sym p i + sym q i + 1) (pos 0));
        zero0 = λ k h. (ready.empty k h).0;
        zero1 = λ k h. (ready.empty k h).1;
      }))

module _ {limit : ℕ} (width : ℕ) (base : List ℤ) (x0 x1 y0 y1 : ℕ) (r : QuadrantReadable limit width base x0 x1 y0 y1) where
  abbrev blocks : List BlockMotion
  blocks = quadrant_from base (across_of x0) (across_of x1) (down_of width y0) (down_of width y1)

  pub quadrant-is : motions_in blocks ≡ quadrant_read width base x0 x1 y0 y1
  quadrant-is = four_same (spot-read width base x0 y0) (spot-read width base x1 y0) (spot-read width base x0 y1) (spot-read width base x1 y1)

  -- of a block that is read, of the block as it is by value
  empty-at : (x y : ℕ) → ReadableAt limit width base x y → Both Empty (motion_in (block_from base (across_of x) (down_of width y)))
  empty-at x y a = subst (Both Empty) (sym (spot-read width base x y)) (read-empty width base x y a)

  kept_at : (x y : ℕ) → ReadableAt limit width base x y → Both (Kept limit) (motion_in (block_from base (across_of x) (down_of width y)))
  kept_at x y a = subst (Both (Kept limit)) (sym (spot-read width base x y)) (read_kept width base x y a)

  pub mergeable : Mergeable base (across_of x0) (across_of x1) (down_of width y0) (down_of width y1)
  mergeable =
      let k00 = kept_at x0 y0 r.0 in
      let k10 = kept_at x1 y0 r.1 in
      let k01 = kept_at x0 y1 r.2 in
      let k11 = kept_at x1 y1 r.3 in
      record {
        places = (place_in width base x0 y0 r.0, place_in width base x1 y0 r.1, place_in width base x0 y1 r.2, place_in width base x1 y1 r.3);
        empty = each _ (empty-at x0 y0 r.0) (empty-at x1 y0 r.1) (empty-at x0 y1 r.2) (empty-at x1 y1 r.3);
        referring = each _ (k00.0.reference, k00.1.reference) (k10.0.reference, k10.1.reference) (k01.0.reference, k01.1.reference) (k11.0.reference, k11.1.reference);
      }

  -- at places that are these
  module _ {left right upper lower : Spot} (p : left ≡ across_of x0) (q : right ≡ across_of x1) (s : upper ≡ down_of width y0) (t : lower ≡ down_of width y1) where
    pub mergeable-at : Mergeable base left right upper lower
    mergeable-at = rw (p, q, s, t) mergeable

    pub quadrant-at : motions_in (quadrant_from base left right upper lower) ≡ quadrant_read width base x0 x1 y0 y1
    quadrant-at = (λ i. motions_in (quadrant_from base (p i) (q i) (s i) (t i))) ∙ quadrant-is

-- ---- the sixteen
module _ (width : ℕ) (across down : List ℕ) (base : List ℤ) where
  abbrev x : ℕ → ℕ
  x i = get_or across i 0

  abbrev y : ℕ → ℕ
  y i = get_or down i 0

  -- the quadrant that begins at column i and row j
  abbrev read_from : ℕ → ℕ → List Motion
  read_from i j = quadrant_read width base (x i) (x (i + 1)) (y j) (y (j + 1))

  -- without an intra block, the quadrants merged
  unmarked : (q : ℕ) → q < 4 → (k : ℕ) → k < 4 → get_or (clear_of 0 q) k false ≡ true
  unfolding clear_of
  unmarked =
      each (λ q. (k : ℕ) → k < 4 → get_or (clear_of 0 q) k false ≡ true) (each _ refl refl refl refl) (each _ refl refl refl refl) (each _ refl refl refl refl) (each _ refl refl refl refl)

  unfilled : (q i j : ℕ) → q < 4 → merged (read_from i j) ≡ merged (filled (clear_of 0 q) (read_from i j))
  unfilled q i j h = ap merged (sym (filled-leaves (clear_of 0 q) (read_from i j) (unmarked q h)))

  pub merged-only : {a b c d : List Motion} → a ≡ merged (read_from 0 0) → b ≡ merged (read_from 2 0) → c ≡ merged (read_from 0 2) → d ≡ merged (read_from 2 2)
      → (a ∷ b ∷ c ∷ d ∷ []) ≡ resolved 0 (gathered_by width across down base)
  unfolding resolved copied copied_from live_of some_of clear_of pick gathered_by
  merged-only a b c d =
      four_same (a ∙ unfilled 0 0 0 (omega arith)) (b ∙ unfilled 1 2 0 (omega arith)) (c ∙ unfilled 2 0 2 (omega arith)) (d ∙ unfilled 3 2 2 (omega arith))

-- ---- the quadrants, at the places of the four columns and the four rows
pub record Spotted (limit width : ℕ) (across down : List ℕ) (base : List ℤ) (x0 x1 x2 x3 y0 y1 y2 y3 : Spot) : Type 0 where
  pub readable : Readable limit width across down base
  pub column-0 : x0 ≡ across_of (get_or across 0 0)
  pub column-1 : x1 ≡ across_of (get_or across 1 0)
  pub column-2 : x2 ≡ across_of (get_or across 2 0)
  pub column-3 : x3 ≡ across_of (get_or across 3 0)
  pub row-0 : y0 ≡ down_of width (get_or down 0 0)
  pub row-1 : y1 ≡ down_of width (get_or down 1 0)
  pub row-2 : y2 ≡ down_of width (get_or down 2 0)
  pub row-3 : y3 ≡ down_of width (get_or down 3 0)

-- by what `across_of` and `down_of` give
pub spots : {limit width : ℕ} {across down : List ℕ} {base : List ℤ} {x0 x1 x2 x3 y0 y1 y2 y3 : Spot} → Readable limit width across down base
    → x0 ≡ across_of (get_or across 0 0) → x1 ≡ across_of (get_or across 1 0) → x2 ≡ across_of (get_or across 2 0) → x3 ≡ across_of (get_or across 3 0)
    → y0 ≡ down_of width (get_or down 0 0) → y1 ≡ down_of width (get_or down 1 0) → y2 ≡ down_of width (get_or down 2 0) → y3 ≡ down_of width (get_or down 3 0)
    → Spotted limit width across down base x0 x1 x2 x3 y0 y1 y2 y3
spots r a b c d e f g h = record {
  readable = r;
  column-0 = a;
  column-1 = b;
  column-2 = c;
  column-3 = d;
  row-0 = e;
  row-1 = f;
  row-2 = g;
  row-3 = h;
}

-- a quadrant can be merged, and what it reads
pub record Placed (base : List ℤ) (left right upper lower : Spot) (m : List Motion) : Type 0 where
  pub mergeable : Mergeable base left right upper lower
  pub is : motions_in (quadrant_from base left right upper lower) ≡ m

module _ {limit width : ℕ} {across down : List ℕ} {base : List ℤ} {x0 x1 x2 x3 y0 y1 y2 y3 : Spot} (all : Spotted limit width across down base x0 x1 x2 x3 y0 y1 y2 y3) where
  placed : {a b c d : ℕ} {left right upper lower : Spot} → QuadrantReadable limit width base a b c d → left ≡ across_of a → right ≡ across_of b → upper ≡ down_of width c → lower ≡ down_of width d
      → Placed base left right upper lower (quadrant_read width base a b c d)
  placed {a} {b} {c} {d} r p q s t = record { mergeable = mergeable-at width base a b c d r p q s t; is = quadrant-at width base a b c d r p q s t }

  ready : (i : ℕ) → i < 16 → ReadableAt limit width base (get_or across (i % 4) 0) (get_or down (i / 4) 0)
  ready = all.readable

  pub placed-0 : Placed base x0 x1 y0 y1 (read_from width across down base 0 0)
  placed-0 = placed (ready 0 (omega arith), ready 1 (omega arith), ready 4 (omega arith), ready 5 (omega arith)) all.column-0 all.column-1 all.row-0 all.row-1

  pub placed-1 : Placed base x2 x3 y0 y1 (read_from width across down base 2 0)
  placed-1 = placed (ready 2 (omega arith), ready 3 (omega arith), ready 6 (omega arith), ready 7 (omega arith)) all.column-2 all.column-3 all.row-0 all.row-1

  pub placed-2 : Placed base x0 x1 y2 y3 (read_from width across down base 0 2)
  placed-2 = placed (ready 8 (omega arith), ready 9 (omega arith), ready 12 (omega arith), ready 13 (omega arith)) all.column-0 all.column-1 all.row-2 all.row-3

  pub placed-3 : Placed base x2 x3 y2 y3 (read_from width across down base 2 2)
  placed-3 = placed (ready 10 (omega arith), ready 11 (omega arith), ready 14 (omega arith), ready 15 (omega arith)) all.column-2 all.column-3 all.row-2 all.row-3

-- ---- step 1
-- where all blocks are clear, or none is, nothing is filled
module _ (clear : List Bool) (m : List Motion) where
  pub filled-alike : Alike clear → filled clear m ≡ four (λ k. get_or m k zero_motion)
  unfolding filled source pick
  filled-alike a = by (get_or clear 0 false) refl
    where
      by : (t : Bool) → get_or clear 0 false ≡ t → filled clear m ≡ four (λ k. get_or m k zero_motion)
      by true e = filled-leaves clear m (λ k h. a k h ∙ e)
      by false e = rw (e, a 1 (omega arith) ∙ e, a 2 (omega arith) ∙ e, a 3 (omega arith) ∙ e)

module _ (base : List ℤ) (left right upper lower : Spot) (ready : Mergeable base left right upper lower) (clear : List Bool) where
  abbrev found : List Motion
  found = motions_in (quadrant_from base left right upper lower)

  pub made_plain : plain_at left right upper lower ≡ true → Alike clear → found ≡ merged (filled clear found)
  made_plain p a = plain-merged base left right upper lower ready p ∙ ap merged (sym (filled-alike clear found a))

  pub made-clear : (((get_or clear 0 false && get_or clear 1 false) && get_or clear 2 false) && get_or clear 3 false) ≡ true → merged found ≡ merged (filled clear found)
  made-clear e =
      let abc = both_true ((get_or clear 0 false && get_or clear 1 false) && get_or clear 2 false) (get_or clear 3 false) e in
      let ab = both_true (get_or clear 0 false && get_or clear 1 false) (get_or clear 2 false) abc.0 in
      let a = both_true (get_or clear 0 false) (get_or clear 1 false) ab.0 in
      ap merged (sym (filled-leaves clear found (each _ a.0 a.1 ab.1 abc.1)))

  -- what was filled can be merged
  abbrev Fit : Motion → Type 0
  Fit m = Both Empty m × (Reference m.list0.reference × Reference m.list1.reference)

  fit : (k : ℕ) → k < 4 → Fit (get_or (filled clear found) k zero_motion)
  fit = filled_keeps clear found Fit (λ k h. (ready.empty k h, subst (λ (m : Motion). Reference m.list0.reference × Reference m.list1.reference) (sym (four-at (λ j. motion_in (get_or (quadrant_from base left right upper lower) j zero_block)) zero_motion k h)) (ready.referring k h)))

  pub filled-mergeable : (r : List BlockMotion) → motions_in r ≡ filled clear found → AllEmpty (motions_in r) × AllReferring r
  filled-mergeable r e =
      let at-k : (k : ℕ) → k < 4 → Fit (get_or (motions_in r) k zero_motion) = λ k h. subst (λ (m : List Motion). Fit (get_or m k zero_motion)) (sym e) (fit k h) in (
        λ k h. (at-k k h).0,
        λ k h. subst (λ (m : Motion). Reference m.list0.reference × Reference m.list1.reference) (four-at (λ j. motion_in (get_or r j zero_block)) zero_motion k h) (at-k k h).1,
      )

-- ---- the sixteen, where some are intra
-- places of references tell macroblocks apart
same-across : (width x0 x1 y : ℕ) → (across_of x0).references ≡ (across_of x1).references → address_at width x1 y ≡ address_at width x0 y
same-across width x0 x1 y e = let c : x1 / 4 ≡ x0 / 4 = omega arith in ap (λ (n : ℕ). y / 4 * width + n) c

same-down : (width x y0 y1 : ℕ) → (down_of width y0).references ≡ (down_of width y1).references → address_at width x y1 ≡ address_at width x y0
same-down width x y0 y1 e = omega arith

module _ (width : ℕ) (across down : List ℕ) (base : List ℤ) {set : ℕ} (is : set ≡ set_by width across down base) where
  abbrev address_of : ℕ → ℕ
  address_of i = address_at width (get_or across (i % 4) 0) (get_or down (i / 4) 0)

  marked-is : (i : ℕ) → i < 16 → marked set i ≡ is_intra (record_at base (address_of i))
  unfolding set_by
  marked-is i h = ap (λ (n : ℕ). marked n i) is ∙ bit_is 16 (λ j. is_intra (record_at base (address_of j))) i h

  clear-same : (i j : ℕ) → i < 16 → j < 16 → address_of i ≡ address_of j → not (marked set i) ≡ not (marked set j)
  clear-same i j h l e = ap not (marked-is i h ∙ (ap (λ (a : ℕ). is_intra (record_at base a)) e ∙ sym (marked-is j l)))

  -- a plain quadrant that begins at column i and row j, which is the first of its blocks
  module _ (i j : ℕ) {left right upper lower : Spot} (p : left ≡ across_of (get_or across i 0)) (q : right ≡ across_of (get_or across (i + 1) 0))
      (s : upper ≡ down_of width (get_or down j 0)) (t : lower ≡ down_of width (get_or down (j + 1) 0)) (plain : plain_at left right upper lower ≡ true) where
    columns-same : (across_of (get_or across i 0)).references ≡ (across_of (get_or across (i + 1) 0)).references
    columns-same = ap (λ (l : Spot). l.references) (sym p) ∙ (eqb-true left.references right.references (both_true (eqb left.references right.references) (eqb upper.references lower.references) plain).0 ∙ ap (λ (l : Spot). l.references) q)

    rows_same : (down_of width (get_or down j 0)).references ≡ (down_of width (get_or down (j + 1) 0)).references
    rows_same = ap (λ (l : Spot). l.references) (sym s) ∙ (eqb-true upper.references lower.references (both_true (eqb left.references right.references) (eqb upper.references lower.references) plain).1 ∙ ap (λ (l : Spot). l.references) t)

    pub right-same : (y : ℕ) → address_at width (get_or across (i + 1) 0) y ≡ address_at width (get_or across i 0) y
    right-same y = same-across width _ _ y columns-same

    pub lower-same : (x : ℕ) → address_at width x (get_or down (j + 1) 0) ≡ address_at width x (get_or down j 0)
    lower-same x = same-down width x _ _ rows_same

  -- in a plain quadrant all blocks are clear or none is
  module _ {limit : ℕ} {x0 x1 x2 x3 y0 y1 y2 y3 : Spot} (all : Spotted limit width across down base x0 x1 x2 x3 y0 y1 y2 y3) where
    pub alike-0 : plain_at x0 x1 y0 y1 ≡ true → Alike (clear_of set 0)
    unfolding clear_of
    alike-0 e =
        let r = right-same 0 0 all.column-0 all.column-1 all.row-0 all.row-1 e in
        let l = lower-same 0 0 all.column-0 all.column-1 all.row-0 all.row-1 e in
        each _ refl (clear-same 1 0 (omega arith) (omega arith) (r _)) (clear-same 4 0 (omega arith) (omega arith) (l _)) (clear-same 5 0 (omega arith) (omega arith) (r _ ∙ l _))

    pub alike-1 : plain_at x2 x3 y0 y1 ≡ true → Alike (clear_of set 1)
    unfolding clear_of
    alike-1 e =
        let r = right-same 2 0 all.column-2 all.column-3 all.row-0 all.row-1 e in
        let l = lower-same 2 0 all.column-2 all.column-3 all.row-0 all.row-1 e in
        each _ refl (clear-same 3 2 (omega arith) (omega arith) (r _)) (clear-same 6 2 (omega arith) (omega arith) (l _)) (clear-same 7 2 (omega arith) (omega arith) (r _ ∙ l _))

    pub alike-2 : plain_at x0 x1 y2 y3 ≡ true → Alike (clear_of set 2)
    unfolding clear_of
    alike-2 e =
        let r = right-same 0 2 all.column-0 all.column-1 all.row-2 all.row-3 e in
        let l = lower-same 0 2 all.column-0 all.column-1 all.row-2 all.row-3 e in
        each _ refl (clear-same 9 8 (omega arith) (omega arith) (r _)) (clear-same 12 8 (omega arith) (omega arith) (l _)) (clear-same 13 8 (omega arith) (omega arith) (r _ ∙ l _))

    pub alike-3 : plain_at x2 x3 y2 y3 ≡ true → Alike (clear_of set 3)
    unfolding clear_of
    alike-3 e =
        let r = right-same 2 2 all.column-2 all.column-3 all.row-2 all.row-3 e in
        let l = lower-same 2 2 all.column-2 all.column-3 all.row-2 all.row-3 e in
        each _ refl (clear-same 11 10 (omega arith) (omega arith) (r _)) (clear-same 14 10 (omega arith) (omega arith) (l _)) (clear-same 15 10 (omega arith) (omega arith) (r _ ∙ l _))

  pub made-of-quadrants : {a b c d : List Motion} {m : List (List Motion)} → a ≡ merged (filled (clear_of set 0) (read_from width across down base 0 0))
      → b ≡ merged (filled (clear_of set 1) (read_from width across down base 2 0)) → c ≡ merged (filled (clear_of set 2) (read_from width across down base 0 2))
      → d ≡ merged (filled (clear_of set 3) (read_from width across down base 2 2)) → m ≡ copied (live_of set) (a ∷ b ∷ c ∷ d ∷ []) → m ≡ resolved set (gathered_by width across down base)
  unfolding resolved gathered_by
  made-of-quadrants ea eb ec ed em = em ∙ ap (copied (live_of set)) (four_same ea eb ec ed)
