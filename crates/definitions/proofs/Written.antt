-- A written record as a motion record: its first broken rule, and that each block uses a list (specs/Written). Assumes nothing.
use Prim.Native.Nat.{ℕ, zero, suc, ◌-◌, ◌*◌, ◌≤◌, ◌<◌}
use mathlib.Core.Path.{◌≡◌, refl, sym, ap, subst, ◌∙◌}
use mathlib.Core.Bool.{Bool, true, false, not, ◌&&◌, ◌||◌}
use mathlib.Core.List.{List, []}
use native.Mathlib.Nat.{le_trans}
use native.Mathlib.Omega.{arith}
use lib.Count.{ones}
use lib.Dec.{T, leb→le, le→leb}
use lib.IntN.{ℤ, pos, negsuc}
use borrow.Author.Tests.{le-leb, not-true, not-false}
use lib.ListN.{get_or}
use lib.Signed.{le_z, ◌≤ℤ◌, le_z_yes}
use Rattle.definitions.specs.declared.Axes.{Axes}
use Rattle.definitions.specs.declared.Prediction.{Prediction}
use Rattle.definitions.specs.declared.Motion.{Motion}
use Rattle.definitions.specs.declared.SubSplit.{SubSplit}
use Rattle.definitions.specs.declared.SubSplit.TheVariants.{S8x8, S8x4, S4x8, S4x4}
use Rattle.definitions.specs.declared.Split.{Split}
use Rattle.definitions.specs.declared.Split.TheVariants.{S16x16, S16x8, S8x16, S8x8 as Quarters}
use Rattle.definitions.specs.declared.Numbers.{Numbers}
use Rattle.definitions.specs.declared.Answer.{Answer}
use Rattle.definitions.specs.Basics.{pick, minus, eq_z, between, all_below, up_to, four}
use Rattle.definitions.specs.Geometry.{axes_of, base_size, scaled_size, inside}
use Rattle.definitions.specs.Accepted.{Sized}
use Rattle.definitions.specs.BlockMap.{address_read, block_read}
use Rattle.definitions.specs.Blocks.{quadrant_of, in_quadrant, raster_of}
use Rattle.definitions.specs.Splits.{one_each}
use Rattle.definitions.specs.Record.{record_at, reference_of, vector_x_of, vector_y_of, is_intra, motion_of, used, type_number, sub_type_number, rule1, rule2, rule3, rule4, rule5, rule6, rule7, first_broken, vector_word, well_formed, laid_out, all_one}
use Rattle.definitions.specs.Inheriting.{reads_intra, marked, intra_set, zero_motion, at, motion_at, gathered, unused, clear_of, filled, merged, live_of, copied, resolved, scaled_word, scaled_prediction, scaled_motion, inherited_motions, chosen}
use Rattle.definitions.specs.Detail.{quadrant_detail, detail_at}
use Rattle.definitions.specs.Answer.{basis_at, divided_by, unused_motion, without_motion, written_for, made_of}
use Rattle.definitions.specs.Demand3.{Case}
use Rattle.definitions.specs.Written.{vectors_in_range, AsRecord, WrittenEntire, without_step1, Step1Unseen}
use Rattle.definitions.proofs.Choices.{yes, no, and_intro, both_true, or_left, or_right, eq_z-true, four-at, four_same, below_true, below-intro, below-same}
use Rattle.definitions.proofs.Rounding.{size_of, range}
use Rattle.definitions.proofs.Accepted.{accepted-axes, across-inside, down-inside}
use Rattle.definitions.proofs.Addresses.{address-named, address_below}
use Rattle.definitions.proofs.Steps.{Both, uses_list, resolved-keeps, resolved-settled, resolved-uses, not-used}
use Rattle.definitions.proofs.StepOne.{unseen}
use Rattle.definitions.proofs.Records.{References, raster-below, raster-motion, laid-references, laid-vectors, laid-detail}
use Rattle.definitions.proofs.Formed.{rules-of, vectors-of}
use Rattle.definitions.proofs.Sets.{set_below, intra-bit}
use Rattle.definitions.proofs.Answers.{Decided, is-outside, is-intra, is-inherited, decided}
use Rattle.definitions.proofs.Promises.{sort, other-sort, motions-written, fewest-written, split-said}
use Rattle.definitions.proofs.Demand.{singly-made}

-- ---- ranges
is_true : (t : Bool) → T t → t ≡ true
is_true true h = refl
is_true false h = absurd h

holds : {t : Bool} → t ≡ true → T t
holds e = subst T (sym e) tt

pub zero-between : (limit : ℕ) → between (minus limit) (pos (limit - 1)) (pos 0) ≡ true
zero-between zero = refl
zero-between (suc n) = and_intro {a = true} refl (le-leb 0 (suc n - 1) (omega arith))

higher : (z : ℤ) (m n : ℕ) → m ≤ n → z ≤ℤ pos m → le_z z (pos n) ≡ true
higher (pos k) m n h l = is_true _ (le→leb k n (le_trans (leb→le k m l.le) h))
higher (negsuc k) m n h l = refl

twice : (b s limit : ℕ) (v : ℤ) → Sized b s → between (minus limit) (pos (limit - 1)) v ≡ true → between (minus (2 * limit)) (pos (2 * limit - 1)) (scaled_word b s v) ≡ true
twice b s limit v z e =
    let both = both_true (le_z (minus limit) v) (le_z v (pos (limit - 1))) e in
    let r = range b s limit v z (le_z_yes (holds both.0)) (le_z_yes (holds both.1)) in
    let low : le_z (minus (2 * limit)) (scaled_word b s v) ≡ true = is_true _ r.0.le in
    and_intro low (higher (scaled_word b s v) (2 * (limit - 1)) (2 * limit - 1) (omega arith) r.1)

-- 0 stays 0
zero-scaled : (b s : ℕ) → scaled_word b s (pos 0) ≡ pos 0
zero-scaled b s = let e : size_of 32768 b s 0 ≡ 0 = omega arith in ap pos e

two : (P : ℕ → Type 0) → P 0 → P 1 → (l : ℕ) → l < 2 → P l
two P a b zero h = a
two P a b (suc zero) h = b
two P a b (suc (suc l)) h = absurd (omega arith)

-- ---- intra and outside
-- what rule 5 says of a block's vector in a list
abbrev vector_pair : ℕ → List ℤ → ℕ → ℕ → Bool
vector_pair limit r b l = vector_word limit (used (reference_of r (quadrant_of b) l)) (vector_x_of r b l) && vector_word limit (used (reference_of r (quadrant_of b) l)) (vector_y_of r b l)

zero_word : (limit : ℕ) (is_used : Bool) (z : ℤ) → z ≡ pos 0 → vector_word limit is_used z ≡ true
zero_word limit is_used z e = ap (vector_word limit is_used) e ∙ and_intro (zero-between limit) (or_right is_used refl)

zero-pair : (limit : ℕ) (r : List ℤ) (b l : ℕ) → vector_x_of r b l ≡ pos 0 → vector_y_of r b l ≡ pos 0 → vector_pair limit r b l ≡ true
zero-pair limit r b l x y =
    let u = used (reference_of r (quadrant_of b) l) in
    let p : vector_word limit u (vector_x_of r b l) ≡ true = zero_word limit u _ x in
    let q : vector_word limit u (vector_y_of r b l) ≡ true = zero_word limit u _ y in
    and_intro p q

no-vectors : (any : ℕ) (d : ℤ) → rule5 any (without_motion 0 d) ≡ true
unfolding rule5
no-vectors any d =
    below-intro 16 _ (λ b hb.
    let v = laid-vectors (all_one 0 unused_motion d) b hb in
    below-intro 2 _ (two (λ l. vector_pair any (without_motion 0 d) b l ≡ true) (zero-pair any (without_motion 0 d) b 0 v.0 v.1) (zero-pair any (without_motion 0 d) b 1 v.2 v.3)))

-- four bits are as rule 7 asks
four-bits : (d : ℕ) → d < 16 → between (pos 0) (pos 15) (pos d) ≡ true
four-bits d h = and_intro (le-leb 0 d (omega arith)) (le-leb d 15 (omega arith))

intra-formed : (any d : ℕ) → d < 16 → first_broken any (without_motion 0 (pos d)) ≡ 0
unfolding pick all_below up_to laid_out rule1 rule2 rule3 rule4 rule6 rule7 first_broken
intra-formed any d h = λ i. pick (not (no-vectors any (pos d) i)) 5 (pick (not (four-bits d h i)) 7 0)

outside-formed : (any : ℕ) → first_broken any (without_motion 5 (pos 0)) ≡ 1
unfolding pick all_below up_to laid_out rule1 first_broken
outside-formed any = refl

-- ---- the rule that is left
left_over : (any : ℕ) (r : List ℤ) → rule1 r ≡ true → rule2 r ≡ true → rule3 r ≡ true → rule4 r ≡ true → rule6 r ≡ true → rule7 r ≡ true → rule5 any r ≡ vectors_in_range any r
    → first_broken any r ≡ pick (vectors_in_range any r) 0 5
unfolding pick first_broken
left_over any r a b c d f g e =
    (λ i. pick (not (a i)) 1 (pick (not (b i)) 2 (pick (not (c i)) 3 (pick (not (d i)) 4 (pick (not (e i)) 5 (pick (not (f i)) 6 (pick (not (g i)) 7 0)))))))
    ∙ turned (vectors_in_range any r)
  where
    turned : (t : Bool) → pick {A = ℕ} (not t) 5 0 ≡ pick t 0 5
    turned true = refl
    turned false = refl

-- ---- types and sub-types
sub-between : (t : SubSplit) → between (pos 0) (pos 3) (pos (sub_type_number t)) ≡ true
sub-between S8x8 = refl
sub-between S8x4 = refl
sub-between S4x8 = refl
sub-between S4x4 = refl

module _ (s : Split) (m : ℕ → Motion) (d : ℤ) where
  abbrev said : List ℤ
  said = laid_out (divided_by s m d)

  said-1 : rule1 said ≡ true
  unfolding rule1 laid_out
  said-1 = by s
    where
      by : (s : Split) → between (pos 0) (pos 4) (pos (type_number s)) ≡ true
      by S16x16 = refl
      by S16x8 = refl
      by S8x16 = refl
      by (Quarters t) = refl

  said-2 : rule2 said ≡ true
  unfolding rule2 laid_out up_to all_below
  said-2 = by s
    where
      by : (s : Split) → rule2 (laid_out (divided_by s m d)) ≡ true
      by S16x16 = refl
      by S16x8 = refl
      by S8x16 = refl
      by (Quarters t) = rw (sub-between t.a, sub-between t.b, sub-between t.c, sub-between t.d)

  said-not-intra : is_intra said ≡ false
  unfolding laid_out
  said-not-intra = by s
    where
      by : (s : Split) → eq_z (pos (type_number s)) (pos 0) ≡ false
      by S16x16 = refl
      by S16x8 = refl
      by S8x16 = refl
      by (Quarters t) = refl

-- ---- the motions that are read, and what steps 1 to 4 make of them
-- a list's part of a motion that a well-formed record has
record Fit (limit : ℕ) (p : Prediction) : Type 0 where
  reference : between (minus 1) (pos 31) p.reference ≡ true
  x : between (minus limit) (pos (limit - 1)) p.x ≡ true
  y : between (minus limit) (pos (limit - 1)) p.y ≡ true

module _ (limit : ℕ) (g : Axes) (base : List ℤ) (column row : ℕ) (formed : (i : ℕ) → i < 16 → well_formed limit (record_at base (address_read g column row i)) ≡ true) where
  abbrev set : ℕ
  set = intra_set g base column row

  abbrev read : ℕ → List ℤ
  read i = record_at base (address_read g column row i)

  abbrev block : ℕ → ℕ
  block i = block_read g column row i

  abbrev gathered_there : List (List Motion)
  gathered_there = gathered g base column row

  abbrev there : List (List Motion)
  there = resolved set gathered_there

  abbrev motions : List (List Motion)
  motions = inherited_motions g base column row

  block-below : (i : ℕ) → block i < 16
  unfolding block_read
  block-below i = omega arith

  read-fit : (i : ℕ) → i < 16 → Both (Fit limit) (motion_of (read i) (block i))
  unfolding motion_of rule3
  read-fit i h =
      let q : quadrant_of (block i) < 4 = omega (arith, block-below i) in
      let fit : (l : ℕ) → l < 2 → (between (minus 1) (pos 31) (reference_of (read i) (quadrant_of (block i)) l) ≡ true) =
      λ l k. below_true 2 (λ j. between (minus 1) (pos 31) (reference_of (read i) (quadrant_of (block i)) j)) (below_true 4 (λ r. all_below 2 (λ j. between (minus 1) (pos 31) (reference_of (read i) r j))) (rules-of limit (read i) (formed i h)).references (quadrant_of (block i)) q) l k in
      let v = vectors-of limit (read i) (formed i h) (block i) in (
        record { reference = fit 0 (omega arith); x = (both_true _ _ (v 0 (block-below i) (omega arith)).x).0; y = (both_true _ _ (v 0 (block-below i) (omega arith)).y).0 },
        record { reference = fit 1 (omega arith); x = (both_true _ _ (v 1 (block-below i) (omega arith)).x).0; y = (both_true _ _ (v 1 (block-below i) (omega arith)).y).0 },
      )

  gathered-is : (q k : ℕ) → q < 4 → k < 4 → at gathered_there q k ≡ motion_of (read (raster_of q k)) (block (raster_of q k))
  unfolding gathered
  gathered-is q k hq hk =
      ap (λ (l : List Motion). get_or l k zero_motion) (four-at (λ j. four (λ i. motion_of (read (raster_of j i)) (block (raster_of j i)))) [] q hq)
      ∙ four-at (λ i. motion_of (read (raster_of q i)) (block (raster_of q i))) zero_motion k hk

  gathered-fit : (q k : ℕ) → q < 4 → k < 4 → Both (Fit limit) (at gathered_there q k)
  gathered-fit q k hq hk = subst (Both (Fit limit)) (sym (gathered-is q k hq hk)) (read-fit (raster_of q k) (raster-below q k hq hk))

  resolved-fit : (q k : ℕ) → q < 4 → k < 4 → Both (Fit limit) (at there q k)
  resolved-fit = resolved-keeps (Fit limit) (record { reference = refl; x = zero-between limit; y = zero-between limit }) set gathered_there gathered-fit

  scaled-is : (q k : ℕ) → q < 4 → k < 4 → at motions q k ≡ scaled_motion g (at there q k)
  unfolding inherited_motions
  scaled-is q k hq hk =
      ap (λ (l : List Motion). get_or l k zero_motion) (four-at (λ j. four (λ i. scaled_motion g (at there j i))) [] q hq)
      ∙ four-at (λ i. scaled_motion g (at there q i)) zero_motion k hk

  -- a block that reads no intra macroblock uses a list
  read-uses : (i : ℕ) → i < 16 → reads_intra g base column row i ≡ false → uses_list (motion_of (read i) (block i)) ≡ true
  unfolding motion_of rule4
  read-uses i h e =
      let q : quadrant_of (block i) < 4 = omega (arith, block-below i) in
      below_true 4 (λ r. used (reference_of (read i) r 0) || used (reference_of (read i) r 1)) (sym (no _ _ e) ∙ (rules-of limit (read i) (formed i h)).lists) (quadrant_of (block i)) q

  -- one that reads an intra macroblock uses none, and has no vector
  read-unused : (i : ℕ) → i < 16 → reads_intra g base column row i ≡ true → motion_of (read i) (block i) ≡ unused_motion
  unfolding motion_of rule4
  read-unused i h e =
      let b = block i in
      let q : quadrant_of b < 4 = omega (arith, block-below i) in
      let lists : (l : ℕ) → l < 2 → used (reference_of (read i) (quadrant_of b) l) ≡ false =
      λ l k. not-true (used (reference_of (read i) (quadrant_of b) l))
      (below_true 2 (λ j. not (used (reference_of (read i) (quadrant_of b) j)))
      (below_true 4 (λ r. all_below 2 (λ j. not (used (reference_of (read i) r j)))) (sym (yes _ _ e) ∙ (rules-of limit (read i) (formed i h)).lists) (quadrant_of b) q) l k) in
      let word : (l : ℕ) (u : used (reference_of (read i) (quadrant_of b) l) ≡ false) (z : ℤ) → vector_word limit (used (reference_of (read i) (quadrant_of b) l)) z ≡ true → z ≡ pos 0 =
      λ l u z w. eq_z-true z (pos 0) (ap (λ (t : Bool). t || eq_z z (pos 0)) (sym u) ∙ (both_true (between (minus limit) (pos (limit - 1)) z) (used (reference_of (read i) (quadrant_of b) l) || eq_z z (pos 0)) w).1) in
      let v0 = vectors-of limit (read i) (formed i h) b 0 (block-below i) (omega arith) in
      let v1 = vectors-of limit (read i) (formed i h) b 1 (block-below i) (omega arith) in
      let u0 = lists 0 (omega arith) in
      let u1 = lists 1 (omega arith) in
      let r0 = not-used _ u0 in
      let r1 = not-used _ u1 in
      let x0 = word 0 u0 _ v0.x in
      let y0 = word 0 u0 _ v0.y in
      let x1 = word 1 u1 _ v1.x in
      let y1 = word 1 u1 _ v1.y in
      λ j. record { list0 = record { reference = r0 j; x = x0 j; y = y0 j }; list1 = record { reference = r1 j; x = x1 j; y = y1 j } }

  -- so step 1 is not seen
  quadrant-same : (q : ℕ) → q < 4 → merged (filled (clear_of set q) (get_or gathered_there q [])) ≡ merged (get_or gathered_there q [])
  unfolding clear_of
  quadrant-same q hq =
      unseen (λ k. not (marked set (raster_of q k))) (get_or gathered_there q [])
      (λ k hk e. gathered-is q k hq hk ∙ read-unused (raster_of q k) (raster-below q k hq hk)
      (sym (intra-bit g base column row (raster_of q k) (raster-below q k hq hk)) ∙ not-false (marked set (raster_of q k)) e))

  resolved-without : there ≡ without_step1 set gathered_there
  unfolding resolved
  resolved-without =
      ap (copied (live_of set)) (four_same (quadrant-same 0 (omega arith)) (quadrant-same 1 (omega arith)) (quadrant-same 2 (omega arith)) (quadrant-same 3 (omega arith)))

  module _ (few : ones set ≤ 8) where
    uses-there : (q k : ℕ) → q < 4 → k < 4 → uses_list (at there q k) ≡ true
    unfolding intra_set
    uses-there =
        resolved-uses set (set_below 16 (reads_intra g base column row)) few gathered_there
        (λ q k hq hk u. ap uses_list (gathered-is q k hq hk)
        ∙ read-uses (raster_of q k) (raster-below q k hq hk) (sym (intra-bit g base column row (raster_of q k) (raster-below q k hq hk)) ∙ u))

    -- ---- inherited
    module _ (h : Sized (base_size g.horizontal) (scaled_size g.horizontal)) (v : Sized (base_size g.vertical) (scaled_size g.vertical)) (s : Split) (d : ℕ) where
      abbrev written : List ℤ
      written = laid_out (divided_by s (motion_at motions) (pos d))

      -- the references that are written are those of the quadrant's first block, and so of each of its blocks
      references-are : (q k : ℕ) → q < 4 → k < 4 → References written q (at there q k)
      unfolding scaled_motion scaled_prediction
      references-are q k hq hk =
          let w = laid-references (divided_by s (motion_at motions) (pos d)) q hq in
          let e = raster-motion q 0 hq (omega arith) motions ∙ scaled-is q 0 hq (omega arith) in
          let t = resolved-settled set gathered_there q hq in
          (w.0 ∙ (ap (λ (m : Motion). m.list0.reference) e ∙ sym (t.one0 k hk)), w.1 ∙ (ap (λ (m : Motion). m.list1.reference) e ∙ sym (t.one1 k hk)))

      written-3 : rule3 written ≡ true
      unfolding rule3
      written-3 =
          below-intro 4 _ (λ q hq. below-intro 2 _ (two (λ l. between (minus 1) (pos 31) (reference_of written q l) ≡ true)
          (ap (between (minus 1) (pos 31)) (references-are q 0 hq (omega arith)).0 ∙ (resolved-fit q 0 hq (omega arith)).0.reference)
          (ap (between (minus 1) (pos 31)) (references-are q 0 hq (omega arith)).1 ∙ (resolved-fit q 0 hq (omega arith)).1.reference)))

      written_4 : rule4 written ≡ true
      unfolding rule4
      written_4 =
          no _ _ (said-not-intra s (motion_at motions) (pos d))
          ∙ below-intro 4 _ (λ q hq.
          let r = references-are q 0 hq (omega arith) in
          (λ i. used (r.0 i) || used (r.1 i)) ∙ uses-there q 0 hq (omega arith))

      -- block b, and so its vectors
      motion-there : (b : ℕ) → b < 16 → motion_at motions b ≡ scaled_motion g (at there (quadrant_of b) (in_quadrant b))
      motion-there b hb = scaled-is (quadrant_of b) (in_quadrant b) (omega arith) (omega arith)

      -- a scaled part is empty where its list is unused
      empty : (p : Prediction) → (used p.reference ≡ false → p ≡ unused) → (z : ℤ) → (p ≡ unused → z ≡ pos 0) → (used p.reference || eq_z z (pos 0)) ≡ true
      empty p u z e = by (used p.reference) refl
        where
          by : (t : Bool) → used p.reference ≡ t → (used p.reference || eq_z z (pos 0)) ≡ true
          by true q = or_left (eq_z z (pos 0)) q
          by false q = or_right (used p.reference) (ap (λ (w : ℤ). eq_z w (pos 0)) (e (u q)))

      -- where a list is unused its vector is 0
      zero-where : (b : ℕ) → b < 16 → (l : ℕ) → l < 2
          → ((used (reference_of written (quadrant_of b) l) || eq_z (vector_x_of written b l) (pos 0)) ≡ true) × ((used (reference_of written (quadrant_of b) l) || eq_z (vector_y_of written b l) (pos 0)) ≡ true)
      unfolding scaled_motion scaled_prediction
      zero-where b hb =
          let q = quadrant_of b in
          let k = in_quadrant b in
          let hq : q < 4 = omega arith in
          let hk : k < 4 = omega arith in
          let w = laid-vectors (divided_by s (motion_at motions) (pos d)) b hb in
          let m = motion-there b hb in
          let r = references-are q k hq hk in
          let t = resolved-settled set gathered_there q hq in
          let p = (at there q k).list0 in
          let o = (at there q k).list1 in
          let across : (z : Prediction) → z ≡ unused → scaled_word (base_size g.horizontal) (scaled_size g.horizontal) z.x ≡ pos 0 =
          λ z e. ap (λ (y : Prediction). scaled_word (base_size g.horizontal) (scaled_size g.horizontal) y.x) e ∙ zero-scaled _ _ in
          let down : (z : Prediction) → z ≡ unused → scaled_word (base_size g.vertical) (scaled_size g.vertical) z.y ≡ pos 0 =
          λ z e. ap (λ (y : Prediction). scaled_word (base_size g.vertical) (scaled_size g.vertical) y.y) e ∙ zero-scaled _ _ in
          two (λ l. ((used (reference_of written q l) || eq_z (vector_x_of written b l) (pos 0)) ≡ true) × ((used (reference_of written q l) || eq_z (vector_y_of written b l) (pos 0)) ≡ true)) (
            ap (λ (z : ℤ). used z || eq_z (vector_x_of written b 0) (pos 0)) r.0 ∙ empty p (t.zero0 k hk) _ (λ e. w.0 ∙ (ap (λ (n : Motion). n.list0.x) m ∙ across p e)),
            ap (λ (z : ℤ). used z || eq_z (vector_y_of written b 0) (pos 0)) r.0 ∙ empty p (t.zero0 k hk) _ (λ e. w.1 ∙ (ap (λ (n : Motion). n.list0.y) m ∙ down p e)),
          ) (
            ap (λ (z : ℤ). used z || eq_z (vector_x_of written b 1) (pos 0)) r.1 ∙ empty o (t.zero1 k hk) _ (λ e. w.2 ∙ (ap (λ (n : Motion). n.list1.x) m ∙ across o e)),
            ap (λ (z : ℤ). used z || eq_z (vector_y_of written b 1) (pos 0)) r.1 ∙ empty o (t.zero1 k hk) _ (λ e. w.3 ∙ (ap (λ (n : Motion). n.list1.y) m ∙ down o e)),
          )

      -- so rule 5 is the range
      written-5 : (any : ℕ) → rule5 any written ≡ vectors_in_range any written
      unfolding rule5 vectors_in_range
      written-5 any =
          below-same 16 _ _ (λ b hb. below-same 2 _ _ (λ l hl.
          let z = zero-where b hb l hl in
          let x = between (minus any) (pos (any - 1)) (vector_x_of written b l) in
          let y = between (minus any) (pos (any - 1)) (vector_y_of written b l) in
          (λ i. (x && z.0 i) && (y && z.1 i)) ∙ (λ i. and-true x i && and-true y i)))
        where
          and-true : (t : Bool) → (t && true) ≡ t
          and-true true = refl
          and-true false = refl

      -- and twice the range is kept
      written-doubled : vectors_in_range (2 * limit) written ≡ true
      unfolding vectors_in_range scaled_motion scaled_prediction
      written-doubled =
          below-intro 16 _ (λ b hb.
          let q = quadrant_of b in
          let k = in_quadrant b in
          let w = laid-vectors (divided_by s (motion_at motions) (pos d)) b hb in
          let m = motion-there b hb in
          let f = resolved-fit q k (omega arith) (omega arith) in
          let within : ℤ → Bool = between (minus (2 * limit)) (pos (2 * limit - 1)) in
          let x0 : within (vector_x_of written b 0) ≡ true = ap within (w.0 ∙ ap (λ (n : Motion). n.list0.x) m) ∙ twice _ _ limit _ h f.0.x in
          let y0 : within (vector_y_of written b 0) ≡ true = ap within (w.1 ∙ ap (λ (n : Motion). n.list0.y) m) ∙ twice _ _ limit _ v f.0.y in
          let x1 : within (vector_x_of written b 1) ≡ true = ap within (w.2 ∙ ap (λ (n : Motion). n.list1.x) m) ∙ twice _ _ limit _ h f.1.x in
          let y1 : within (vector_y_of written b 1) ≡ true = ap within (w.3 ∙ ap (λ (n : Motion). n.list1.y) m) ∙ twice _ _ limit _ v f.1.y in
          below-intro 2 _ (two (λ l. (within (vector_x_of written b l) && within (vector_y_of written b l)) ≡ true) (and_intro x0 y0) (and_intro x1 y1)))

      written-uses : (i : ℕ) → i < 16 → motion_of written i ≡ motion_at motions i → uses_list (motion_of written i) ≡ true
      unfolding scaled_motion scaled_prediction
      written-uses i hi e = ap uses_list (e ∙ motion-there i hi) ∙ uses-there (quadrant_of i) (in_quadrant i) (omega arith) (omega arith)

      written-6 : one_each (motion_of written) s ≡ true → rule6 written ≡ true
      unfolding rule6
      written-6 o = or_right (is_intra written) (ap (one_each (motion_of written)) (split-said s (motion_at motions) (pos d)) ∙ o)

      written-7 : d < 16 → rule7 written ≡ true
      unfolding rule7
      written-7 small = ap (between (pos 0) (pos 15)) (laid-detail (divided_by s (motion_at motions) (pos d))) ∙ four-bits d small

      written-rule : d < 16 → one_each (motion_of written) s ≡ true → (any : ℕ) → first_broken any written ≡ pick (vectors_in_range any written) 0 5
      written-rule small o any = left_over any written (said-1 s (motion_at motions) (pos d)) (said-2 s (motion_at motions) (pos d)) written-3 written_4 (written-6 o) (written-7 small) (written-5 any)

-- ---- what is made in a case
detail-below : (g : Axes) (base : List ℤ) (column row : ℕ) → detail_at g base column row < 16
unfolding detail_at
detail-below g base column row = set_below 4 (quadrant_detail g base column row)

module _ (limit : ℕ) (n : Numbers) (column row : ℕ) (base : List ℤ) (case : Case limit n column row base) where
  abbrev axes : Axes
  axes = axes_of n

  read-formed : inside axes column row ≡ true → (i : ℕ) → i < 16 → well_formed limit (record_at base (address_read axes column row i)) ≡ true
  read-formed e i h =
      let a = accepted-axes n case.geometry in
      let x = across-inside axes column row a e in
      let y = down-inside axes column row a e in
      case.formed _ (address_below axes column row x y (address-named axes column row x y i h))

  made_as : {answer : Answer} → Decided axes base column row answer → AsRecord limit answer (written_for answer (inherited_motions axes base column row))
  unfolding written_for sort basis_at
  made_as (is-outside e) = record {
    uses = λ o s q. absurd (other-sort q (λ r. omega arith));
    inherited = λ o s q. absurd (other-sort q (λ r. omega arith));
    doubled = λ o s q. absurd (other-sort q (λ r. omega arith));
    intra = λ o q. absurd (other-sort q (λ r. omega arith));
    outside = λ q any. outside-formed any;
  }
  made_as (is-intra e m) = record {
    uses = λ o s q. absurd (other-sort q (λ r. omega arith));
    inherited = λ o s q. absurd (other-sort q (λ r. omega arith));
    doubled = λ o s q. absurd (other-sort q (λ r. omega arith));
    intra = λ o q any. intra-formed any _ (detail-below axes base column row);
    outside = λ q. absurd (other-sort q (λ r. omega arith));
  }
  made_as (is-inherited e few) =
      let a = accepted-axes n case.geometry in
      let h = a.horizontal.sized in
      let v = a.vertical.sized in
      let f = read-formed e in
      let named = basis_at axes base column row in
      let bits = detail_at axes base column row in
      let small = detail-below axes base column row in
      let split = chosen (inherited_motions axes base column row) in
      let one = (fewest-written axes base column row (is-inherited e few) named split refl).one in
      record {
        uses = λ o s q i hi. written-uses limit axes base column row f few h v split bits i hi (motions-written axes base column row named split refl i hi);
        inherited = λ o s q any. written-rule limit axes base column row f few h v split bits small one any;
        doubled = λ o s q. written-rule limit axes base column row f few h v split bits small one (2 * limit) ∙ yes 0 5 (written-doubled limit axes base column row f few h v split bits);
        intra = λ o q. absurd (other-sort q (λ r. omega arith));
        outside = λ q. absurd (other-sort q (λ r. omega arith));
      }

pub written-entire : (limit : ℕ) → WrittenEntire limit
unfolding made_of
written-entire limit n column row base case words answer written e =
    let g = axes_of n in
    let made = made_of g base column row in
    let p = singly-made limit n column row words base answer written e in
    let a : made.answer ≡ answer = p.0 in
    let w : made.written ≡ written = p.1 in
    subst (λ (x : Answer). AsRecord limit x written) a
    (subst (λ (x : List ℤ). AsRecord limit made.answer x) w
    (made_as limit n column row base case (decided g base column row)))

pub step-1-unseen : (limit : ℕ) → Step1Unseen limit
step-1-unseen limit n column row base case e = resolved-without limit (axes_of n) base column row (read-formed limit n column row base case e)
