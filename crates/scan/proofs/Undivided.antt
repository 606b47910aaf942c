-- A record of type 1, 2 or 3 is well formed where it keeps rules 2 and 3, the first block of each piece keeps rules 4 and 5, and the others have its motion. Assumes nothing.
use Prim.Native.Nat.{ℕ, zero, suc, ◌+◌, ◌-◌, ◌*◌, ◌/◌, ◌%◌, ◌<◌, ◌≤◌}
use mathlib.Core.Path.{◌≡◌, refl, sym, ap, ◌∙◌, subst}
use mathlib.Core.Bool.{Bool, true, false, ◌&&◌, ◌||◌}
use mathlib.Core.List.{List}
use native.Mathlib.Nat.{zero-add, add-zero, div-add-mod}
use native.Mathlib.Omega.{arith}
use lib.IntN.{ℤ, pos}
use Rattle.definitions.specs.declared.Motion.{Motion}
use Rattle.definitions.specs.declared.Prediction.{Prediction}
use Rattle.definitions.specs.declared.Split.{Split}
use Rattle.definitions.specs.declared.Split.TheVariants.{S16x16, S16x8, S8x16}
use Rattle.definitions.specs.Basics.{eq_z, between, all_below}
use Rattle.definitions.specs.Blocks.{quadrant_of, raster_of}
use Rattle.definitions.specs.Record.{word_of, type_of, is_intra, used, vector_word, motion_of, split_said, rule1, rule2, rule3, rule4, rule5, rule7, well_formed}
use Rattle.definitions.proofs.Choices.{yes, no, both_true, both_ways, and_intro, eq_z-true, below_true, below-intro, each}
use Rattle.definitions.proofs.Formed.{rules-of}
use Rattle.definitions.proofs.Motions.{motion-same}
use Rattle.definitions.proofs.Records.{raster-quadrant, raster-below}
use Rattle.records.specs.Checking.{quadrant_used, list_right, first_block_in, same_references, same_vectors, block_within}
use Rattle.records.proofs.FirstBlocks.{motion-parts}
use Rattle.records.proofs.Ranges.{use-each}
use Rattle.records.proofs.Searches.{below_more}
use Rattle.records.proofs.Undivided.{by_first}
use Rattle.scan.specs.Quick.{block_right, vectors_repeat}
use Rattle.scan.proofs.Alike.{Referred, referred, Alike, alike, alike_self, alike_then, alike-motion, one-motion-each}
use Rattle.scan.proofs.Kept.{rules-formed}

-- what holds at 0 and 1 holds at each index below 2
either : (P : ℕ → Type 0) → P 0 → P 1 → (k : ℕ) → k < 2 → P k
either P a b zero h = a
either P a b (suc zero) h = b
either P a b (suc (suc k)) h = absurd (omega arith)

-- ---- A block, by its words
module _ (limit : ℕ) (r : List ℤ) (b : ℕ) (f g : ℤ → Bool)
    (e0 : (v : ℤ) → f v ≡ vector_word limit (used (word_of r (5 + 2 * quadrant_of b))) v)
    (e1 : (v : ℤ) → g v ≡ vector_word limit (used (word_of r (5 + 2 * quadrant_of b + 1))) v) where
  list0 : (f (word_of r (13 + 4 * b)) && f (word_of r (13 + 4 * b + 1))) ≡ list_right limit r b 0
  list0 =
      let n : 5 + 2 * quadrant_of b + 0 ≡ 5 + 2 * quadrant_of b = add-zero (5 + 2 * quadrant_of b) in
      let w : 13 + 4 * b + 0 ≡ 13 + 4 * b = add-zero (13 + 4 * b) in
      (λ i. e0 (word_of r (13 + 4 * b)) i && e0 (word_of r (13 + 4 * b + 1)) i)
      ∙ sym (λ i. vector_word limit (used (word_of r (n i))) (word_of r (w i)) && vector_word limit (used (word_of r (n i))) (word_of r (w i + 1)))

  list1 : (g (word_of r (13 + 4 * b + 2)) && g (word_of r (13 + 4 * b + 3))) ≡ list_right limit r b 1
  list1 =
      let w : 13 + 4 * b + 2 + 1 ≡ 13 + 4 * b + 3 = omega arith in
      let is-used = used (word_of r (5 + 2 * quadrant_of b + 1)) in
      (λ i. e1 (word_of r (13 + 4 * b + 2)) i && e1 (word_of r (13 + 4 * b + 3)) i)
      ∙ sym (λ i. vector_word limit is-used (word_of r (13 + 4 * b + 2)) && vector_word limit is-used (word_of r (w i)))

  pub block-lists : block_within f g r (13 + 4 * b) ≡ all_below 2 (list_right limit r b)
  unfolding all_below
  block-lists = λ i. list0 i && list1 i

pub block-is : (limit : ℕ) (r : List ℤ) (b : ℕ) {u v : Bool} → u ≡ quadrant_used r (quadrant_of b) → v ≡ all_below 2 (list_right limit r b) → (u && v) ≡ block_right limit r b
unfolding block_right
block-is limit r b e f = λ i. e i && f i

-- ---- Rules 4 and 5 are those of the blocks
module _ (limit : ℕ) (r : List ℤ) (inter : is_intra r ≡ false) where
  blocks-4 : ((b : ℕ) → b < 16 → block_right limit r b ≡ true) → rule4 r ≡ true
  unfolding block_right
  blocks-4 right =
      use-each r inter
      ∙ below-intro 4 _ (λ q h.
      ap (quadrant_used r) (sym (raster-quadrant q 0 h (omega arith))) ∙ (both_true (quadrant_used r (quadrant_of (raster_of q 0))) (all_below 2 (list_right limit r (raster_of q 0))) (right (raster_of q 0) (raster-below q 0 h (omega arith)))).0)

  blocks-5 : ((b : ℕ) → b < 16 → block_right limit r b ≡ true) → rule5 limit r ≡ true
  unfolding rule5 block_right
  blocks-5 right = below-intro 16 _ (λ b h. (both_true (quadrant_used r (quadrant_of b)) (all_below 2 (list_right limit r b)) (right b h)).1)

  block_of : rule4 r ≡ true → rule5 limit r ≡ true → (b : ℕ) → b < 16 → block_right limit r b ≡ true
  unfolding rule5 block_right
  block_of e4 e5 b h =
      and_intro (below_true 4 (quadrant_used r) (sym (use-each r inter) ∙ e4) (quadrant_of b) (omega arith)) (below_true 16 (λ b. all_below 2 (list_right limit r b)) e5 b h)

-- they are said by the motion that a block shows
abbrev right_in : ℕ → Prediction → Bool
right_in limit p = vector_word limit (used p.reference) p.x && vector_word limit (used p.reference) p.y

abbrev shown_right : ℕ → Motion → Bool
shown_right limit m = (used m.list0.reference || used m.list1.reference) && (right_in limit m.list0 && right_in limit m.list1)

shown : (limit : ℕ) (r : List ℤ) (b : ℕ) → block_right limit r b ≡ shown_right limit (motion_of r b)
unfolding motion_of block_right all_below
shown limit r b = refl

-- ---- Vectors that repeat
module _ (r : List ℤ) where
  module _ (first step : ℕ) where
    -- block k from the first on, and the one that is a step after it
    abbrev pub again : ℕ → Bool
    again k = same_vectors r (first + k + step) (first + k)

    -- so far, up to block b: none, and one more
    pub repeat-none : true ≡ all_below (first + step - (first + step)) again
    unfolding all_below
    repeat-none = let none : 0 ≡ first + step - (first + step) = omega arith in ap (λ (n : ℕ). all_below n again) none

    pub repeat-more :
        (b : ℕ) → first + step ≤ b → {same here : Bool} → same ≡ all_below (b - (first + step)) again → here ≡ same_vectors r b (b - step) →
        (same && here) ≡ all_below (b + 1 - (first + step)) again
    repeat-more b low so_far next =
        let at : b ≡ first + (b - (first + step)) + step = omega arith in
        let before : b - step ≡ first + (b - (first + step)) = omega arith in
        let more : b - (first + step) + 1 ≡ b + 1 - (first + step) = omega arith in
        below_more again (b - (first + step)) so_far (next ∙ (λ i. same_vectors r (at i) (before i))) ∙ ap (λ (n : ℕ). all_below n again) more

    module _ (end : ℕ) where
      pub repeat-end :
          (b : ℕ) → b - (first + step) ≤ end - (first + step) → end ≤ b → {same : Bool} → same ≡ all_below (b - (first + step)) again → same ≡ vectors_repeat r first end step
      unfolding vectors_repeat
      repeat-end b low high so_far = let all : b - (first + step) ≡ end - (first + step) = omega arith in so_far ∙ ap (λ (n : ℕ). all_below n again) all

      abbrev Repeated : Type 0
      Repeated = (b : ℕ) → first ≤ b → b + step < end → same_vectors r (b + step) b ≡ true

      repeated : vectors_repeat r first end step ≡ true → Repeated
      unfolding vectors_repeat
      repeated e b low high =
          let at : first + (b - first) ≡ b = omega arith in
          subst (λ (d : ℕ). same_vectors r (d + step) d ≡ true) at (below_true (end - (first + step)) again e (b - first) (omega arith))

      repeat : Repeated → vectors_repeat r first end step ≡ true
      unfolding vectors_repeat
      repeat s = below-intro (end - (first + step)) again (λ k h. s (first + k) (omega arith) (omega arith))

  -- by steps of two, from two blocks that are the same
  twos : (first n : ℕ) → same_vectors r (first + 1) first ≡ true → Repeated first 2 (first + n) → (k : ℕ) → k < n → Alike r (first + k) first
  twos first n one more zero h = let e : first + zero ≡ first = omega arith in subst (λ (b : ℕ). Alike r b first) (sym e) (alike_self r first)
  twos first n one more (suc zero) h = alike r (first + 1) first one
  twos first n one more (suc (suc k)) h =
      let e : first + suc (suc k) ≡ first + k + 2 = omega arith in
      subst (λ (b : ℕ). Alike r b first) (sym e)
      (alike_then r (first + k + 2) (first + k) first (alike r (first + k + 2) (first + k) (more (first + k) (omega arith) (omega arith))) (twos first n one more k (omega arith)))

  -- by rows of four
  fours : Repeated 0 4 16 → (i k : ℕ) → k < 4 → 4 * i + k < 16 → Alike r (4 * i + k) k
  fours more zero k hk h = subst (λ (b : ℕ). Alike r b k) (sym (zero-add k)) (alike_self r k)
  fours more (suc i) k hk h =
      let e : 4 * suc i + k ≡ 4 * i + k + 4 = omega arith in
      subst (λ (b : ℕ). Alike r b k) (sym e)
      (alike_then r (4 * i + k + 4) (4 * i + k) k (alike r (4 * i + k + 4) (4 * i + k) (more (4 * i + k) (omega arith) (omega arith))) (fours more i k hk (omega arith)))

-- ---- A record of type n, which says split s
module _ (r : List ℤ) (n : ℕ) (is : eq_z (type_of r) (pos n) ≡ true) where
  type : type_of r ≡ pos n
  type = eq_z-true (type_of r) (pos n) is

  pub not-4 : eq_z (pos n) (pos 4) ≡ false → eq_z (type_of r) (pos 4) ≡ false
  not-4 e = ap (λ (z : ℤ). eq_z z (pos 4)) type ∙ e

  module _ (limit : ℕ) (s : Split) (said : split_said r ≡ s) (no-0 : eq_z (pos n) (pos 0) ≡ false) where
    inter : is_intra r ≡ false
    inter = ap (λ (z : ℤ). eq_z z (pos 0)) type ∙ no-0

    by-firsts :
        rule7 r ≡ true → between (pos 0) (pos 4) (pos n) ≡ true → (rule2 r && rule3 r) ≡ true →
        ((b : ℕ) → b < 16 → Referred r (quadrant_of b) (quadrant_of (first_block_in s b))) → ((b : ℕ) → b < 16 → Alike r b (first_block_in s b)) →
        ((b : ℕ) → b < 16 → block_right limit r (first_block_in s b) ≡ true) → well_formed limit r ≡ true
    unfolding rule1
    by-firsts seven e1 head references vectors firsts =
        let both = both_true (rule2 r) (rule3 r) head in
        let motions : (b : ℕ) → b < 16 → motion_of r b ≡ motion_of r (first_block_in s b) = λ b h. alike-motion r b (first_block_in s b) (references b h) (vectors b h) in
        let right : (b : ℕ) → b < 16 → block_right limit r b ≡ true =
        λ b h. shown limit r b ∙ (ap (shown_right limit) (motions b h) ∙ (sym (shown limit r (first_block_in s b)) ∙ firsts b h)) in
        rules-formed limit r (record {
          types = ap (between (pos 0) (pos 4)) type ∙ e1;
          sub-types = both.0;
          references = both.1;
          lists = blocks-4 limit r inter right;
          vectors = blocks-5 limit r inter right;
          pieces = one-motion-each r s said motions;
          detail = seven;
        })

    -- where it is well formed
    module _ (formed : well_formed limit r ≡ true) where
      head_of : (rule2 r && rule3 r) ≡ true
      head_of = and_intro (rules-of limit r formed).sub-types (rules-of limit r formed).references

      right_of : (b : ℕ) → b < 16 → block_right limit r b ≡ true
      right_of = block_of limit r inter (rules-of limit r formed).lists (rules-of limit r formed).vectors

      same_of :
          (b c : ℕ) → b < 16 → c < 16 → first_block_in s b ≡ first_block_in s c → (same_references r (quadrant_of b) (quadrant_of c) ≡ true) × (same_vectors r b c ≡ true)
      same_of b c hb hc e =
          both_true _ _
          (sym (motion-parts r b c)
          ∙ motion-same _ _ (by_first limit r formed inter b c hb hc (ap (λ (t : Split). first_block_in t b) said ∙ (e ∙ sym (ap (λ (t : Split). first_block_in t c) said)))))

    by_parts :
        {rest : Bool} → ((rule2 r && rule3 r) ≡ true → rest ≡ true → well_formed limit r ≡ true) → (well_formed limit r ≡ true → rest ≡ true) →
        ((rule2 r && rule3 r) && rest) ≡ well_formed limit r
    by_parts {rest} to of =
        both_ways _ _
        (λ e. let both = both_true (rule2 r && rule3 r) rest e in to both.0 both.1)
        (λ formed. and_intro (head_of formed) (of formed))

-- ---- The three types
quadrant-below : (b : ℕ) → b < 16 → quadrant_of b < 4
quadrant-below b h = omega arith

row-quadrant : (b : ℕ) → b < 16 → quadrant_of b / 2 * 2 ≡ quadrant_of (b / 8 * 8)
row-quadrant b h = omega arith

column-quadrant : (b : ℕ) → b < 16 → quadrant_of b % 2 ≡ quadrant_of (b % 4 / 2 * 2)
column-quadrant b h = omega arith

module _ (limit : ℕ) (r : List ℤ) where
  -- what is asked of their blocks
  abbrev pub whole_parts : Bool
  whole_parts = ((((block_right limit r 0 && same_references r 1 0) && same_references r 2 0) && same_references r 3 0) && same_vectors r 1 0) && vectors_repeat r 0 16 2

  abbrev pub rows_parts : Bool
  rows_parts =
      ((((((block_right limit r 0 && block_right limit r 8) && same_references r 1 0) && same_references r 3 2) && same_vectors r 1 0) && vectors_repeat r 0 8 2) && same_vectors r 9 8)
      && vectors_repeat r 8 16 2

  abbrev pub columns_parts : Bool
  columns_parts =
      (((((block_right limit r 0 && block_right limit r 2) && same_references r 2 0) && same_references r 3 1) && same_vectors r 1 0) && same_vectors r 3 2) && vectors_repeat r 0 16 4

  module _ (is : eq_z (type_of r) (pos 1) ≡ true) (seven : rule7 r ≡ true) where
    said-whole : split_said r ≡ S16x16
    unfolding split_said
    said-whole = yes _ _ is

    pub whole_is : ((rule2 r && rule3 r) && whole_parts) ≡ well_formed limit r
    whole_is =
        by_parts r 1 is limit S16x16 said-whole refl
        (λ head e.
        let v2 = both_true _ _ e in
        let v1 = both_true _ _ v2.0 in
        let s3 = both_true _ _ v1.0 in
        let s2 = both_true _ _ s3.0 in
        let s1 = both_true _ _ s2.0 in
        by-firsts r 1 is limit S16x16 said-whole refl seven refl head
        (λ b h. each (λ q. Referred r q 0) (λ l k. refl) (referred r 1 0 s1.1) (referred r 2 0 s2.1) (referred r 3 0 s3.1) (quadrant_of b) (quadrant-below b h))
        (λ b h. subst (λ (d : ℕ). Alike r d 0) (zero-add b) (twos r 0 16 v1.1 (repeated r 0 2 16 v2.1) b h))
        (λ b h. s1.0))
        (λ formed.
        let right = right_of r 1 is limit S16x16 said-whole refl formed in
        let same = same_of r 1 is limit S16x16 said-whole refl formed in
        and_intro
        (and_intro
        (and_intro
        (and_intro (and_intro (right 0 (omega arith)) (same 2 0 (omega arith) (omega arith) refl).0) (same 8 0 (omega arith) (omega arith) refl).0)
        (same 10 0 (omega arith) (omega arith) refl).0)
        (same 1 0 (omega arith) (omega arith) refl).1)
        (repeat r 0 2 16 (λ b low high. (same (b + 2) b (omega arith) (omega arith) refl).1)))

  module _ (is : eq_z (type_of r) (pos 2) ≡ true) (seven : rule7 r ≡ true) where
    said-rows : split_said r ≡ S16x8
    unfolding split_said
    said-rows = no _ _ (ap (λ (z : ℤ). eq_z z (pos 1)) (type r 2 is)) ∙ yes _ _ is

    pub rows_is : ((rule2 r && rule3 r) && rows_parts) ≡ well_formed limit r
    rows_is =
        by_parts r 2 is limit S16x8 said-rows refl
        (λ head e.
        let lower = both_true _ _ e in
        let v9 = both_true _ _ lower.0 in
        let upper = both_true _ _ v9.0 in
        let v1 = both_true _ _ upper.0 in
        let s3 = both_true _ _ v1.0 in
        let s1 = both_true _ _ s3.0 in
        let firsts = both_true _ _ s1.0 in
        by-firsts r 2 is limit S16x8 said-rows refl seven refl head
        (λ b h.
        subst (Referred r (quadrant_of b)) (row-quadrant b h)
        (each (λ q. Referred r q (q / 2 * 2)) (λ l k. refl) (referred r 1 0 s1.1) (λ l k. refl) (referred r 3 2 s3.1) (quadrant_of b) (quadrant-below b h)))
        (λ b h.
        let half : 8 * (b / 8) ≡ b / 8 * 8 = omega arith in
        subst (Alike r b) half
        (subst (λ (d : ℕ). Alike r d (8 * (b / 8))) (div-add-mod b 8)
        (either (λ i. (k : ℕ) → k < 8 → Alike r (8 * i + k) (8 * i)) (twos r 0 8 v1.1 (repeated r 0 2 8 upper.1)) (twos r 8 8 v9.1 (repeated r 8 2 16 lower.1))
        (b / 8) (omega arith) (b % 8) (omega arith))))
        (λ b h. either (λ i. block_right limit r (i * 8) ≡ true) firsts.0 firsts.1 (b / 8) (omega arith)))
        (λ formed.
        let right = right_of r 2 is limit S16x8 said-rows refl formed in
        let same = same_of r 2 is limit S16x8 said-rows refl formed in
        and_intro
        (and_intro
        (and_intro
        (and_intro
        (and_intro
        (and_intro (and_intro (right 0 (omega arith)) (right 8 (omega arith))) (same 2 0 (omega arith) (omega arith) refl).0)
        (same 10 8 (omega arith) (omega arith) refl).0)
        (same 1 0 (omega arith) (omega arith) refl).1)
        (repeat r 0 2 8 (λ b low high. (same (b + 2) b (omega arith) (omega arith) (omega arith)).1)))
        (same 9 8 (omega arith) (omega arith) refl).1)
        (repeat r 8 2 16 (λ b low high. (same (b + 2) b (omega arith) (omega arith) (omega arith)).1)))

  module _ (is : eq_z (type_of r) (pos 3) ≡ true) (seven : rule7 r ≡ true) where
    said-columns : split_said r ≡ S8x16
    unfolding split_said
    said-columns = no _ _ (ap (λ (z : ℤ). eq_z z (pos 1)) (type r 3 is)) ∙ (no _ _ (ap (λ (z : ℤ). eq_z z (pos 2)) (type r 3 is)) ∙ yes _ _ is)

    pub columns-is : ((rule2 r && rule3 r) && columns_parts) ≡ well_formed limit r
    columns-is =
        by_parts r 3 is limit S8x16 said-columns refl
        (λ head e.
        let v4 = both_true _ _ e in
        let v3 = both_true _ _ v4.0 in
        let v1 = both_true _ _ v3.0 in
        let s3 = both_true _ _ v1.0 in
        let s2 = both_true _ _ s3.0 in
        let firsts = both_true _ _ s2.0 in
        by-firsts r 3 is limit S8x16 said-columns refl seven refl head
        (λ b h.
        subst (Referred r (quadrant_of b)) (column-quadrant b h)
        (each (λ q. Referred r q (q % 2)) (λ l k. refl) (λ l k. refl) (referred r 2 0 s2.1) (referred r 3 1 s3.1) (quadrant_of b) (quadrant-below b h)))
        (λ b h.
        let at : 4 * (b / 4) + b % 4 ≡ b = div-add-mod b 4 in
        alike_then r b (b % 4) (b % 4 / 2 * 2)
        (subst (λ (d : ℕ). Alike r d (b % 4)) at (fours r (repeated r 0 4 16 v4.1) (b / 4) (b % 4) (omega arith) (subst (λ (d : ℕ). d < 16) (sym at) h)))
        (each (λ k. Alike r k (k / 2 * 2)) (alike_self r 0) (alike r 1 0 v1.1) (alike_self r 2) (alike r 3 2 v3.1) (b % 4) (omega arith)))
        (λ b h. each (λ k. block_right limit r (k / 2 * 2) ≡ true) firsts.0 firsts.0 firsts.1 firsts.1 (b % 4) (omega arith)))
        (λ formed.
        let right = right_of r 3 is limit S8x16 said-columns refl formed in
        let same = same_of r 3 is limit S8x16 said-columns refl formed in
        and_intro
        (and_intro
        (and_intro
        (and_intro
        (and_intro (and_intro (right 0 (omega arith)) (right 2 (omega arith))) (same 8 0 (omega arith) (omega arith) refl).0)
        (same 10 2 (omega arith) (omega arith) refl).0)
        (same 1 0 (omega arith) (omega arith) refl).1)
        (same 3 2 (omega arith) (omega arith) refl).1)
        (repeat r 0 4 16 (λ b low high. (same (b + 4) b (omega arith) (omega arith) (omega arith)).1)))
