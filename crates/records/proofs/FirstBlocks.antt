-- Rule 6 by blocks: each has the motion of the first block of its piece; which that is, by type and sub-type. Assumes nothing.
use Prim.Native.Nat.{ℕ, ◌+◌, ◌*◌, ◌/◌, ◌%◌, ◌<◌}
use mathlib.Core.Path.{◌≡◌, refl, sym, ap, ◌∙◌}
use mathlib.Core.Bool.{Bool, true, false, ◌&&◌, ◌||◌, and_assoc, and-true}
use mathlib.Core.List.{List, [], ◌∷◌, ◌++◌}
use native.Mathlib.Nat.{add-zero}
use native.Mathlib.Omega.{arith}
use lib.IntN.{ℤ, pos}
use lib.ListN.{get_or}
use mir.Syntax.{w16}
use mir.Val.{SFits, of_z}
use Rattle.definitions.specs.declared.Motion.{Motion}
use Rattle.definitions.specs.declared.SubSplit.{SubSplit}
use Rattle.definitions.specs.declared.SubSplit.TheVariants.{S8x8, S8x4, S4x8, S4x4}
use Rattle.definitions.specs.declared.SubSplits.{SubSplits}
use Rattle.definitions.specs.declared.Split.{Split}
use Rattle.definitions.specs.declared.Split.TheVariants.{S16x16, S16x8, S8x16, S8x8 as Quarters}
use Rattle.definitions.specs.Basics.{pick, eq_z, all_below, all_of}
use Rattle.definitions.specs.Splits.{same_prediction, same_motion, sub_pieces, alike, one_each}
use Rattle.definitions.specs.Record.{word_of, type_of, sub_type_of, is_intra, motion_of, sub_split_of, split_said, rule6}
use Rattle.definitions.specs.Blocks.{quadrant_of, raster_of}
use Rattle.definitions.proofs.Choices.{yes, no, each, below-intro, below-same}
use Rattle.definitions.proofs.Motions.{motion-same}
use Rattle.definitions.proofs.Records.{raster-quadrant, raster-within}
use Rattle.records.specs.Checking.{sub_first_block, sub_split_at, first_block_in, first_block_of, same_references, same_vectors}
use Rattle.records.proofs.Words.{word-is, word-is-not}
use Rattle.records.proofs.Searches.{and-swap, below_both, by-quadrants}

all_append : {A : Type 0} (f : A → Bool) (k l : List A) → all_of f (k ++ l) ≡ (all_of f k && all_of f l)
unfolding all_of
all_append f [] l = refl
all_append f (x ∷ xs) l = ap (λ (t : Bool). f x && t) (all_append f xs l) ∙ sym (and_assoc (f x) (all_of f xs) (all_of f l))

-- a quadrant's first block, and a place in it: raster_of is their sum
abbrev first : ℕ → ℕ
first q = get_or (0 ∷ 2 ∷ 8 ∷ 10 ∷ []) q 0

abbrev place : ℕ → ℕ
place k = get_or (0 ∷ 1 ∷ 4 ∷ 5 ∷ []) k 0

-- the blocks by rows of four, each a left and a right half
by_rows : (f : ℕ → Bool) → all_below 16 f ≡ all_below 4 (λ r. (f (4 * r) && f (4 * r + 1)) && (f (4 * r + 2) && f (4 * r + 3)))
unfolding all_below
by_rows f = simp and_assoc

module _ (m : ℕ → Motion) where
  same : (i : ℕ) → same_motion (m i) (m i) ≡ true
  same i = motion-same (m i) (m i) refl

  -- block b has the motion of the block that f names
  abbrev as_at : (ℕ → ℕ) → ℕ → Bool
  as_at f b = same_motion (m b) (m (f b))

  abbrev pub first_place : SubSplit → ℕ → ℕ
  first_place S8x8 k = 0
  first_place S8x4 k = k / 2 * 2
  first_place S4x8 k = k % 2
  first_place S4x4 k = k

  -- the quadrant whose first block is i
  in-quadrant :
      (i : ℕ) (s : SubSplit) → all_below 4 (λ k. same_motion (m (i + place k)) (m (i + place (first_place s k)))) ≡ all_of (alike m) (sub_pieces i s)
  unfolding all_below all_of alike
  in-quadrant i S8x8 = rw (add-zero i, same i) (simp (and_assoc, and-true))
  in-quadrant i S8x4 = rw (add-zero i, same i, same (i + 4)) (simp (and_assoc, and-true))
  in-quadrant i S4x8 = rw (add-zero i, same i, same (i + 1)) (simp (and_assoc, and-true))
  in-quadrant i S4x4 = rw (add-zero i, same i, same (i + 1), same (i + 4), same (i + 5))

  pub sub-first-is : (q k : ℕ) → q < 4 → k < 4 → (s : SubSplit) → sub_first_block s (raster_of q k) ≡ raster_of q (first_place s k)
  sub-first-is q k hq hk S8x8 = rw (raster-quadrant q k hq hk)
  sub-first-is q k hq hk S8x4 = rw (raster-quadrant q k hq hk, raster-within q k hq hk)
  sub-first-is q k hq hk S4x8 = rw (raster-quadrant q k hq hk, raster-within q k hq hk)
  sub-first-is q k hq hk S4x4 = refl

  quadrant-as :
      (t : SubSplits) (q : ℕ) →
      q < 4 →
      all_below 4 (λ k. as_at (first_block_in (Quarters t)) (raster_of q k)) ≡ all_of (alike m) (sub_pieces (first q) (sub_split_at t q))
  quadrant-as t q hq =
      below-same 4 (λ k. as_at (first_block_in (Quarters t)) (raster_of q k)) (λ k. same_motion (m (raster_of q k)) (m (raster_of q (first_place (sub_split_at t q) k))))
      (λ k hk.
      ap (λ (d : ℕ). same_motion (m (raster_of q k)) (m d))
      (ap (λ (i : ℕ). sub_first_block (sub_split_at t i) (raster_of q k)) (raster-quadrant q k hq hk) ∙ sub-first-is q k hq hk (sub_split_at t q)))
      ∙ in-quadrant (first q) (sub_split_at t q)

  quarters : (t : SubSplits) → all_below 4 (λ q. all_of (alike m) (sub_pieces (first q) (sub_split_at t q))) ≡ one_each m (Quarters t)
  unfolding one_each all_below
  quarters t = simp (all_append, and_assoc)

  columns : (f : ℕ → Bool) → all_below 16 f ≡ (all_below 4 (λ r. f (4 * r) && f (4 * r + 1)) && all_below 4 (λ r. f (4 * r + 2) && f (4 * r + 3)))
  columns f = by_rows f ∙ sym (below_both 4 (λ r. f (4 * r) && f (4 * r + 1)) (λ r. f (4 * r + 2) && f (4 * r + 3)) _ (λ k. refl))

  pub by-first-blocks : (s : Split) → all_below 16 (as_at (first_block_in s)) ≡ one_each m s
  unfolding one_each all_of alike all_below
  by-first-blocks S16x16 = rw (same 0) (simp (and_assoc, and-true))
  by-first-blocks S16x8 = rw (same 0, same 8) (simp (and_assoc, and-true))
  by-first-blocks S8x16 = columns (as_at (first_block_in S8x16)) ∙ rw (same 0, same 2) (simp (and_assoc, and-true))
  by-first-blocks (Quarters t) =
      by-quadrants (as_at (first_block_in (Quarters t)))
      ∙ (below-same 4 (λ q. all_below 4 (λ k. as_at (first_block_in (Quarters t)) (raster_of q k))) (λ q. all_of (alike m) (sub_pieces (first q) (sub_split_at t q)))
      (quadrant-as t)
      ∙ quarters t)

module _ (r : List ℤ) where
  -- t: the record is intra
  by-type : (t : Bool) → all_below 16 (as_at (motion_of r) (λ b. pick t b (first_block_in (split_said r) b))) ≡ (t || one_each (motion_of r) (split_said r))
  unfolding pick
  by-type true = below-intro 16 _ (λ b h. motion-same (motion_of r b) (motion_of r b) refl)
  by-type false = by-first-blocks (motion_of r) (split_said r)

  -- block b has the motion of the first block of its piece
  abbrev pub as_first : ℕ → Bool
  as_first = as_at (motion_of r) (first_block_of r)

  pub same-all : rule6 r ≡ all_below 16 as_first
  unfolding rule6 first_block_of
  same-all = sym (by-type (is_intra r))

-- ---- By the sub-type
module _ (z : ℤ) where
  pub said-8x8 : eq_z z (pos 0) ≡ true → sub_split_of z ≡ S8x8
  said-8x8 e = yes _ _ e

  module _ (n0 : eq_z z (pos 0) ≡ false) where
    pub said-8x4 : eq_z z (pos 1) ≡ true → sub_split_of z ≡ S8x4
    said-8x4 e = no _ _ n0 ∙ yes _ _ e

    module _ (n1 : eq_z z (pos 1) ≡ false) where
      pub said-4x8 : eq_z z (pos 2) ≡ true → sub_split_of z ≡ S4x8
      said-4x8 e = no _ _ n0 ∙ (no _ _ n1 ∙ yes _ _ e)

      pub said-4x4 : eq_z z (pos 2) ≡ false → sub_split_of z ≡ S4x4
      said-4x4 n2 = no _ _ n0 ∙ (no _ _ n1 ∙ no _ _ n2)

-- read as a word of sixteen bits
module _ (z : ℤ) (fits : SFits w16 z) where
  is : (n : ℕ) → n < 5 → of_z w16 z ≡ n → eq_z z (pos n) ≡ true
  is n h e = word-is z (pos n) fits (record { sfits = omega arith }) e

  is-not : (n : ℕ) → n < 5 → (of_z w16 z ≡ n → ⊥) → eq_z z (pos n) ≡ false
  is-not n h e = word-is-not z (pos n) fits (record { sfits = omega arith }) e

  pub sub-8x8 : of_z w16 z ≡ 0 → sub_split_of z ≡ S8x8
  sub-8x8 e = said-8x8 z (is 0 (omega arith) e)

  module _ (n0 : of_z w16 z ≡ 0 → ⊥) where
    pub sub-8x4 : of_z w16 z ≡ 1 → sub_split_of z ≡ S8x4
    sub-8x4 e = said-8x4 z (is-not 0 (omega arith) n0) (is 1 (omega arith) e)

    pub sub-4x8 : (of_z w16 z ≡ 1 → ⊥) → of_z w16 z ≡ 2 → sub_split_of z ≡ S4x8
    sub-4x8 n1 e = said-4x8 z (is-not 0 (omega arith) n0) (is-not 1 (omega arith) n1) (is 2 (omega arith) e)

    pub sub-4x4 : (of_z w16 z ≡ 1 → ⊥) → (of_z w16 z ≡ 2 → ⊥) → sub_split_of z ≡ S4x4
    sub-4x4 n1 n2 = said-4x4 z (is-not 0 (omega arith) n0) (is-not 1 (omega arith) n1) (is-not 2 (omega arith) n2)

-- ---- By the type
module _ (r : List ℤ) (b : ℕ) where
  pub first-intra : eq_z (type_of r) (pos 0) ≡ true → first_block_of r b ≡ b
  unfolding first_block_of
  first-intra e = yes _ _ e

  abbrev said : SubSplits
  said = record { a = sub_split_of (sub_type_of r 0); b = sub_split_of (sub_type_of r 1); c = sub_split_of (sub_type_of r 2); d = sub_split_of (sub_type_of r 3) }

  module _ (n0 : eq_z (type_of r) (pos 0) ≡ false) where
    said-first : (s : Split) → split_said r ≡ s → first_block_of r b ≡ first_block_in s b
    unfolding first_block_of
    said-first s e = no _ _ n0 ∙ ap (λ (x : Split). first_block_in x b) e

    pub first-16x16 : eq_z (type_of r) (pos 1) ≡ true → first_block_of r b ≡ 0
    unfolding split_said
    first-16x16 e = said-first S16x16 (yes _ _ e)

    module _ (n1 : eq_z (type_of r) (pos 1) ≡ false) where
      pub first-16x8 : eq_z (type_of r) (pos 2) ≡ true → first_block_of r b ≡ b / 8 * 8
      unfolding split_said
      first-16x8 e = said-first S16x8 (no _ _ n1 ∙ yes _ _ e)

      module _ (n2 : eq_z (type_of r) (pos 2) ≡ false) where
        past : {s : Split} → pick (eq_z (type_of r) (pos 3)) S8x16 (Quarters said) ≡ s → split_said r ≡ s
        unfolding split_said
        past e = no _ _ n1 ∙ (no _ _ n2 ∙ e)

        pub first-8x16 : eq_z (type_of r) (pos 3) ≡ true → first_block_of r b ≡ b % 4 / 2 * 2
        first-8x16 e = said-first S8x16 (past (yes _ _ e))

        pub first-8x8 : eq_z (type_of r) (pos 3) ≡ false → b < 16 → first_block_of r b ≡ sub_first_block (sub_split_of (sub_type_of r (quadrant_of b))) b
        first-8x8 n3 h =
            said-first (Quarters said) (past (no _ _ n3))
            ∙ ap (λ (s : SubSplit). sub_first_block s b)
            (each (λ q. sub_split_at said q ≡ sub_split_of (sub_type_of r q)) refl refl refl refl (quadrant_of b) (omega arith))

-- ---- The references of quadrants, and the vectors of blocks
module _ (r : List ℤ) where
  abbrev same_word : ℕ → ℕ → Bool
  same_word v w = eq_z (word_of r v) (word_of r w)

  pub references-same : (q e : ℕ) → (same_word (5 + 2 * q) (5 + 2 * e) && same_word (5 + 2 * q + 1) (5 + 2 * e + 1)) ≡ same_references r q e
  unfolding same_references all_below
  references-same q e = rw (add-zero (5 + 2 * q), add-zero (5 + 2 * e))

  pub vectors-same :
      (b d : ℕ) →
      (((same_word (13 + 4 * b) (13 + 4 * d) && same_word (13 + 4 * b + 1) (13 + 4 * d + 1)) && same_word (13 + 4 * b + 2) (13 + 4 * d + 2))
      && same_word (13 + 4 * b + 3) (13 + 4 * d + 3))
      ≡ same_vectors r b d
  unfolding same_vectors all_below
  vectors-same b d =
      let p : 13 + 4 * b + 2 + 1 ≡ 13 + 4 * b + 3 = omega arith in
      let q : 13 + 4 * d + 2 + 1 ≡ 13 + 4 * d + 3 = omega arith in
      rw (add-zero (13 + 4 * b), add-zero (13 + 4 * d), p, q) (simp and_assoc)

  pub motion-parts : (b d : ℕ) → same_motion (motion_of r b) (motion_of r d) ≡ (same_references r (quadrant_of b) (quadrant_of d) && same_vectors r b d)
  unfolding same_motion same_prediction motion_of same_references same_vectors all_below
  motion-parts b d = and-swap (reference 0) (vector 0) (reference 1) (vector 1)
    where
      reference : ℕ → Bool
      reference l = same_word (5 + 2 * quadrant_of b + l) (5 + 2 * quadrant_of d + l)

      vector : ℕ → Bool
      vector l = same_word (13 + 4 * b + 2 * l) (13 + 4 * d + 2 * l) && same_word (13 + 4 * b + 2 * l + 1) (13 + 4 * d + 2 * l + 1)
