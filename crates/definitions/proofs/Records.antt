-- Laws of the blocks of a macroblock and of a record's layout: its words in the list of records, reading back what is laid out, the split that it says. Assumes nothing.
use Prim.Native.Nat.{ℕ, ◌+◌, ◌*◌, ◌/◌, ◌%◌, ◌<◌, ◌≤◌}
use mathlib.Core.Path.{◌≡◌, refl, ◌∙◌, subst}
use mathlib.Core.List.{List, [], ◌∷◌}
use native.Mathlib.Nat.{div-add-mod}
use native.Mathlib.Omega.{arith}
use lib.IntN.{ℤ, pos}
use lib.ListN.{length, get_or, take, drop, length-take, length-drop}
use Rattle.definitions.specs.declared.Motion.{Motion}
use Rattle.definitions.specs.Basics.{up_to}
use Rattle.definitions.specs.Record.{record_words, record_at, type_of, sub_type_of, reference_of, vector_x_of, vector_y_of, detail_of, motion_of, Contents, laid_out}
use Rattle.definitions.specs.Inheriting.{at, motion_at}
use Rattle.definitions.specs.Blocks.{quadrant_of, in_quadrant, raster_of}
use Rattle.definitions.proofs.Choices.{each}

-- ---- Blocks
-- what holds at 0 to 15 holds at each index below 16
pub each16 :
    (P : ℕ → Type 0) →
    P 0 → P 1 → P 2 → P 3 → P 4 → P 5 → P 6 → P 7 → P 8 → P 9 → P 10 → P 11 → P 12 → P 13 → P 14 → P 15 → (b : ℕ) → b < 16 → P b
each16 P p0 p1 p2 p3 p4 p5 p6 p7 p8 p9 p10 p11 p12 p13 p14 p15 b h =
    subst P (div-add-mod b 4)
    (each (λ i. (j : ℕ) → j < 4 → P (4 * i + j))
    (each (λ j. P (4 * 0 + j)) p0 p1 p2 p3)
    (each (λ j. P (4 * 1 + j)) p4 p5 p6 p7)
    (each (λ j. P (4 * 2 + j)) p8 p9 p10 p11)
    (each (λ j. P (4 * 3 + j)) p12 p13 p14 p15)
    (b / 4) (omega arith) (b % 4) (omega arith))

module _ (q k : ℕ) (hq : q < 4) (hk : k < 4) where
  in-square : (P : ℕ → ℕ → Type 0) → ((i : ℕ) → i < 4 → P i 0 × P i 1 × P i 2 × P i 3) → P q k
  in-square P h = let r = h q hq in each (P q) r.0 r.1 r.2 r.3 k hk

  pub raster-quadrant : quadrant_of (raster_of q k) ≡ q
  raster-quadrant = in-square (λ i j. quadrant_of (raster_of i j) ≡ i) (each _ (refl, refl, refl, refl) (refl, refl, refl, refl) (refl, refl, refl, refl) (refl, refl, refl, refl))

  pub raster-within : in_quadrant (raster_of q k) ≡ k
  raster-within = in-square (λ i j. in_quadrant (raster_of i j) ≡ j) (each _ (refl, refl, refl, refl) (refl, refl, refl, refl) (refl, refl, refl, refl) (refl, refl, refl, refl))

  pub raster-below : raster_of q k < 16
  raster-below =
      let a = each (λ i. get_or (0 ∷ 2 ∷ 8 ∷ 10 ∷ []) i 0 < 11) (omega arith) (omega arith) (omega arith) (omega arith) q hq in
      let b = each (λ i. get_or (0 ∷ 1 ∷ 4 ∷ 5 ∷ []) i 0 < 6) (omega arith) (omega arith) (omega arith) (omega arith) k hk in
      omega arith

  pub raster-motion : (m : List (List Motion)) → motion_at m (raster_of q k) ≡ at m q k
  raster-motion m = λ i. at m (raster-quadrant i) (raster-within i)

pub raster-is : (b : ℕ) → b < 16 → raster_of (quadrant_of b) (in_quadrant b) ≡ b
raster-is =
    each16 (λ b. raster_of (quadrant_of b) (in_quadrant b) ≡ b) refl refl refl refl refl refl refl refl refl refl refl refl refl refl refl refl

-- ---- A record of a list of records
module _ (base : List ℤ) (a : ℕ) where
  pub record-length : (a + 1) * record_words ≤ length base → length (record_at base a) ≡ record_words
  unfolding record_at
  record-length fits = simp (length-take, length-drop) (omega arith)

  -- the part of the list that is lent as record a
  pub record-part : (n : ℕ) → n ≡ record_words → take n (drop (record_words * a) base) ≡ record_at base a
  unfolding record_at
  record-part n e = rw e

-- ---- Reading back what is laid out
-- what a record says of a quadrant's references, and of a block's vectors
abbrev pub References : List ℤ → ℕ → Motion → Type 0
References r q m = (reference_of r q 0 ≡ m.list0.reference) × (reference_of r q 1 ≡ m.list1.reference)

abbrev pub Vectors : List ℤ → ℕ → Motion → Type 0
Vectors r b m =
    (vector_x_of r b 0 ≡ m.list0.x) × (vector_y_of r b 0 ≡ m.list0.y) × (vector_x_of r b 1 ≡ m.list1.x) × (vector_y_of r b 1 ≡ m.list1.y)

pub motion-is : (r : List ℤ) (b : ℕ) (m : Motion) → References r (quadrant_of b) m → Vectors r b m → motion_of r b ≡ m
unfolding motion_of
motion-is r b m refs vecs =
    λ i. record { list0 = record { reference = refs.0 i; x = vecs.0 i; y = vecs.1 i }; list1 = record { reference = refs.1 i; x = vecs.2 i; y = vecs.3 i } }

module _ (c : Contents) where
  pub laid-length : length (laid_out c) ≡ record_words
  unfolding laid_out up_to
  laid-length = refl

  pub laid-types : take 5 (laid_out c) ≡ pos c.kind ∷ pos (c.sub 0) ∷ pos (c.sub 1) ∷ pos (c.sub 2) ∷ pos (c.sub 3) ∷ []
  unfolding laid_out up_to
  laid-types = refl

  pub laid-detail : detail_of (laid_out c) ≡ c.detail
  unfolding laid_out up_to
  laid-detail = refl

  pub laid-type : type_of (laid_out c) ≡ pos c.kind
  unfolding laid_out
  laid-type = refl

  pub laid-sub-type : (q : ℕ) → q < 4 → sub_type_of (laid_out c) q ≡ pos (c.sub q)
  unfolding laid_out up_to
  laid-sub-type = each (λ q. sub_type_of (laid_out c) q ≡ pos (c.sub q)) refl refl refl refl

  pub laid-references : (q : ℕ) → q < 4 → References (laid_out c) q (c.motion (raster_of q 0))
  unfolding laid_out up_to
  laid-references = each (λ q. References (laid_out c) q (c.motion (raster_of q 0))) (refl, refl) (refl, refl) (refl, refl) (refl, refl)

  pub laid-vectors : (b : ℕ) → b < 16 → Vectors (laid_out c) b (c.motion b)
  unfolding laid_out up_to
  laid-vectors =
      each16 (λ b. Vectors (laid_out c) b (c.motion b))
      (refl, refl, refl, refl) (refl, refl, refl, refl) (refl, refl, refl, refl) (refl, refl, refl, refl)
      (refl, refl, refl, refl) (refl, refl, refl, refl) (refl, refl, refl, refl) (refl, refl, refl, refl)
      (refl, refl, refl, refl) (refl, refl, refl, refl) (refl, refl, refl, refl) (refl, refl, refl, refl)
      (refl, refl, refl, refl) (refl, refl, refl, refl) (refl, refl, refl, refl) (refl, refl, refl, refl)

  -- a block whose quadrant's first block has its references
  pub laid-motion :
      (b : ℕ) →
      b < 16 →
      (c.motion (raster_of (quadrant_of b) 0)).list0.reference ≡ (c.motion b).list0.reference →
      (c.motion (raster_of (quadrant_of b) 0)).list1.reference ≡ (c.motion b).list1.reference →
      motion_of (laid_out c) b ≡ c.motion b
  laid-motion b h e f =
      let refs = laid-references (quadrant_of b) (omega arith) in
      motion-is (laid_out c) b (c.motion b) (refs.0 ∙ e, refs.1 ∙ f) (laid-vectors b h)
