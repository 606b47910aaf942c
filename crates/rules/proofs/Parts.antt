-- The parts of rules 4 to 6 as the functions test them. Assumes nothing.
use Prim.Native.Nat.{ℕ, zero, suc, ◌+◌, ◌-◌, ◌*◌, ◌/◌, ◌%◌, ◌<◌, ◌≤◌}
use mathlib.Core.Path.{◌≡◌, refl, sym, ap, ◌∙◌}
use mathlib.Core.Bool.{Bool, true, false, ◌&&◌, ◌||◌, and_assoc}
use mathlib.Core.List.{List, [], ◌∷◌}
use native.Mathlib.Nat.{add-zero}
use native.Mathlib.Omega.{arith}
use lib.Bits.{bit_and, and_zero_r, and_le_r}
use lib.Dec.{eqb}
use lib.IntN.{ℤ, pos}
use lib.ListN.{get_or}
use borrow.Author.Tests.{eqb-true}
use mir.Syntax.{Width}
use mir.Val.{SFits}
use Rattle.definitions.specs.declared.SubSplit.{SubSplit}
use Rattle.definitions.specs.declared.SubSplit.TheVariants.{S8x8, S8x4, S4x8, S4x4}
use Rattle.definitions.specs.Basics.{minus, eq_z, all_below}
use Rattle.definitions.specs.Blocks.{quadrant_of, raster_of}
use Rattle.definitions.specs.Record.{word_of, reference_of, vector_x_of, vector_y_of, used, fits, motion_of, sub_split_of, rule1, rule3, rule5, rule6, rule7}
use Rattle.definitions.specs.Splits.{same_motion}
use Rattle.definitions.proofs.Choices.{each, below_true, below-same}
use Rattle.definitions.proofs.Records.{raster-quadrant, raster-below}
use Rattle.records.specs.Checking.{all_within, quadrant_used, list_right, sub_first_block, first_block_of, same_references, same_vectors}
use Rattle.records.proofs.FirstBlocks.{as_first, same-all, motion-parts}
use Rattle.records.proofs.Ranges.{one_number, types, references}
use Rattle.records.proofs.Searches.{and-swap, below_both, by-quadrants}
use Rattle.rules.specs.Searching.{unused_zero}

-- the first block of a quadrant
first-at : (q : ℕ) → q < 4 → 8 * (q / 2) + 2 * (q % 2) ≡ get_or (0 ∷ 2 ∷ 8 ∷ 10 ∷ []) q 0
first-at = each (λ q. 8 * (q / 2) + 2 * (q % 2) ≡ get_or (0 ∷ 2 ∷ 8 ∷ 10 ∷ []) q 0) refl refl refl refl

-- ---- What the tests of words say of the numbers of a record, where the ends of a range are given
pub within : (r : List ℤ) (first count : ℕ) {t : Bool} {low high a b : ℤ} → t ≡ all_within r first count low high → low ≡ a → high ≡ b → t ≡ all_within r first count a b
within r first count e l h = e ∙ (λ i. all_within r first count (l i) (h i))

pub zero_within : (r : List ℤ) (first : ℕ) {t : Bool} {low high : ℤ} → t ≡ all_within r first 2 low high → low ≡ pos 0 → high ≡ pos 0 → t ≡ all_within r first 2 (pos 0) (pos 0)
zero_within r first e l h = within r first 2 e l h

pub types-by : (r : List ℤ) {t : Bool} {low high : ℤ} → t ≡ all_within r 0 1 low high → (low ≡ pos 0) × (high ≡ pos 4) → rule1 r ≡ t
types-by r e range = types r ∙ sym (within r 0 1 e range.0 range.1)

pub references_by : (r : List ℤ) {t : Bool} {low high : ℤ} → t ≡ all_within r 5 8 low high → (low ≡ minus 1) × (high ≡ pos 31) → rule3 r ≡ t
references_by r e range = references r ∙ sym (within r 5 8 e range.0 range.1)

-- what is told of the number that a word gives, of that word of the record
pub told : {x z : ℤ} {t : Bool} (n : ℤ) → x ≡ z → eq_z x n ≡ t → eq_z z n ≡ t
told n e h = ap (λ (z : ℤ). eq_z z n) (sym e) ∙ h

pub detail-by : (r : List ℤ) {t : Bool} → t ≡ rule7 r → rule7 r ≡ t
detail-by r e = sym e

-- ---- Rule 4
pub four-used :
    (r : List ℤ) {t0 t1 t2 t3 : Bool} → t0 ≡ quadrant_used r 0 → t1 ≡ quadrant_used r 1 → t2 ≡ quadrant_used r 2 → t3 ≡ quadrant_used r 3 →
    (((t0 && t1) && t2) && t3) ≡ all_below 4 (quadrant_used r)
unfolding all_below
four-used r e0 e1 e2 e3 = λ i. ((e0 i && e1 i) && e2 i) && e3 i

-- ---- Rule 5
-- what holds the lowest vector word of a limit holds that of a lesser one
pub lesser_fits : (w : Width) (n limit : ℕ) → n ≤ limit → SFits w (minus limit) → SFits w (minus n)
lesser_fits w zero limit h room = record { sfits = omega (arith, room.sfits) }
lesser_fits w (suc n) zero h room = absurd (omega arith)
lesser_fits w (suc n) (suc limit) h room = record { sfits = omega (arith, room.sfits) }

-- two words are 0
zero-pair : (r : List ℤ) (w : ℕ) → all_within r w 2 (pos 0) (pos 0) ≡ (eq_z (word_of r w) (pos 0) && eq_z (word_of r (w + 1)) (pos 0))
unfolding all_within all_below
zero-pair r w = rw (add-zero w) (λ i. one_number (pos 0) (word_of r w) i && one_number (pos 0) (word_of r (w + 1)) i)

-- two tests of each of four, unless u holds
unless : (u : Bool) (f g : ℕ → Bool) → all_below 4 (λ k. (u || f k) && (u || g k)) ≡ (u || all_below 4 (λ k. f k && g k))
unfolding all_below
unless true f g = refl
unless false f g = refl

both-lists : (f : ℕ → Bool) → (f 0 && f 1) ≡ all_below 2 f
unfolding all_below
both-lists f = refl

-- the words of n blocks from word s on
and-four : (t a b c d : Bool) → ((((t && a) && b) && c) && d) ≡ (t && ((a && b) && (c && d)))
and-four true a b c d = and_assoc (a && b) c d
and-four false a b c d = refl

module _ (f : ℕ → Bool) (s : ℕ) where
  abbrev pair : ℕ → ℕ → Bool
  pair b l = f (s + 4 * b + 2 * l) && f (s + 4 * b + 2 * l + 1)

  by_blocks : (n : ℕ) → all_below (4 * n) (λ k. f (s + k)) ≡ all_below n (λ b. all_below 2 (pair b))
  unfolding all_below
  by_blocks zero = refl
  by_blocks (suc n) =
      let e : 4 * suc n ≡ suc (suc (suc (suc (4 * n)))) = omega arith in
      let p0 : s + 4 * n ≡ s + 4 * n + 0 = omega arith in
      let p1 : s + suc (4 * n) ≡ s + 4 * n + 0 + 1 = omega arith in
      let p2 : s + suc (suc (4 * n)) ≡ s + 4 * n + 2 = omega arith in
      let p3 : s + suc (suc (suc (4 * n))) ≡ s + 4 * n + 2 + 1 = omega arith in
      ap (λ (m : ℕ). all_below m (λ k. f (s + k))) e
      ∙ ((λ i. (((by_blocks n i && f (p0 i)) && f (p1 i)) && f (p2 i)) && f (p3 i))
      ∙ and-four (all_below n (λ b. all_below 2 (pair b))) (f (s + 4 * n + 0)) (f (s + 4 * n + 0 + 1)) (f (s + 4 * n + 2)) (f (s + 4 * n + 2 + 1)))

module _ (r : List ℤ) where
  -- of a block, of a quadrant
  abbrev zero_unless : ℕ → ℕ → Bool → Bool
  zero_unless b l u = (u || eq_z (vector_x_of r b l) (pos 0)) && (u || eq_z (vector_y_of r b l) (pos 0))

  abbrev block_zero : ℕ → ℕ → Bool
  block_zero b l = zero_unless b l (used (reference_of r (quadrant_of b) l))

  of-list : (q l : ℕ) → q < 4 → all_below 4 (λ k. block_zero (raster_of q k) l) ≡ unused_zero r q l
  of-list q l hq =
      below-same 4 (λ k. block_zero (raster_of q k) l) (λ k. zero_unless (raster_of q k) l (used (reference_of r q l)))
      (λ k hk. ap (λ (e : ℕ). zero_unless (raster_of q k) l (used (reference_of r e l))) (raster-quadrant q k hq hk))
      ∙ unless (used (reference_of r q l)) (λ k. eq_z (vector_x_of r (raster_of q k) l) (pos 0)) (λ k. eq_z (vector_y_of r (raster_of q k) l) (pos 0))

  of-quadrant : (q : ℕ) → q < 4 → (unused_zero r q 0 && unused_zero r q 1) ≡ all_below 4 (λ k. all_below 2 (block_zero (raster_of q k)))
  of-quadrant q hq =
      (λ i. sym (of-list q 0 hq) i && sym (of-list q 1 hq) i)
      ∙ below_both 4 (λ k. block_zero (raster_of q k) 0) (λ k. block_zero (raster_of q k) 1) (λ k. all_below 2 (block_zero (raster_of q k))) (λ k. both-lists (block_zero (raster_of q k)))

  -- rule 5: all words fit, and those of unused lists are 0
  pub vectors-apart :
      (limit : ℕ) → (all_within r 13 64 (minus limit) (pos (limit - 1)) && all_below 4 (λ q. unused_zero r q 0 && unused_zero r q 1)) ≡ rule5 limit r
  unfolding rule5 all_within
  vectors-apart limit =
      let words = by_blocks (λ w. fits limit (word_of r w)) 13 16 in
      let quadrants = below-same 4 _ _ of-quadrant ∙ sym (by-quadrants (λ b. all_below 2 (block_zero b))) in
      (λ i. words i && quadrants i) ∙ below_both 16 (λ b. all_below 2 (fitting b)) (λ b. all_below 2 (block_zero b)) _ of-block
    where
      fitting : ℕ → ℕ → Bool
      fitting b l = fits limit (vector_x_of r b l) && fits limit (vector_y_of r b l)

      of-block : (b : ℕ) → (all_below 2 (fitting b) && all_below 2 (block_zero b)) ≡ all_below 2 (list_right limit r b)
      of-block b = below_both 2 (fitting b) (block_zero b) (list_right limit r b) (λ l. and-swap (fits limit (vector_x_of r b l)) (fits limit (vector_y_of r b l)) _ _)

  -- the four blocks of a quadrant, by the numbers of their words
  module _ (q l : ℕ) (hq : q < 4) where
    abbrev zero_at : ℕ → Bool
    zero_at w = all_within r w 2 (pos 0) (pos 0)

    abbrev first : ℕ
    first = 13 + 32 * (q / 2) + 8 * (q % 2) + 2 * l

    pub quadrant-zero : (used (reference_of r q l) || (((zero_at first && zero_at (first + 4)) && zero_at (first + 16)) && zero_at (first + 20))) ≡ unused_zero r q l
    unfolding all_below
    quadrant-zero =
        let p0 : first ≡ 13 + 4 * raster_of q 0 + 2 * l = omega (arith, first-at q hq) in
        let p1 : first + 4 ≡ 13 + 4 * raster_of q 1 + 2 * l = omega (arith, first-at q hq) in
        let p2 : first + 16 ≡ 13 + 4 * raster_of q 2 + 2 * l = omega (arith, first-at q hq) in
        let p3 : first + 20 ≡ 13 + 4 * raster_of q 3 + 2 * l = omega (arith, first-at q hq) in
        let z0 = ap zero_at p0 ∙ zero-pair r (13 + 4 * raster_of q 0 + 2 * l) in
        let z1 = ap zero_at p1 ∙ zero-pair r (13 + 4 * raster_of q 1 + 2 * l) in
        let z2 = ap zero_at p2 ∙ zero-pair r (13 + 4 * raster_of q 2 + 2 * l) in
        let z3 = ap zero_at p3 ∙ zero-pair r (13 + 4 * raster_of q 3 + 2 * l) in
        λ i. used (reference_of r q l) || (((z0 i && z1 i) && z2 i) && z3 i)

-- ---- Rule 6
pub motions-same :
    (r : List ℤ) (b d : ℕ) {t u : Bool} → t ≡ same_references r (quadrant_of b) (quadrant_of d) → u ≡ same_vectors r b d → (t && u) ≡ same_motion (motion_of r b) (motion_of r d)
motions-same r b d e f = (λ i. e i && f i) ∙ sym (motion-parts r b d)

-- two functions that agree below 16, as computed
agree : (f g : ℕ → ℕ) → all_below 16 (λ b. eqb (f b) (g b)) ≡ true → (b : ℕ) → b < 16 → f b ≡ g b
agree f g e b h = eqb-true (f b) (g b) (below_true 16 (λ b. eqb (f b) (g b)) e b h)

-- the bits kept, by the sub-type z
abbrev sub_bits : SubSplit → ℕ
sub_bits S8x8 = 10
sub_bits S8x4 = 14
sub_bits S4x8 = 11
sub_bits S4x4 = 15

sub-bits : (s : SubSplit) (b : ℕ) → b < 16 → bit_and b (sub_bits s) ≡ sub_first_block s b
unfolding all_below
sub-bits S8x8 = agree (λ b. bit_and b 10) (sub_first_block S8x8) refl
sub-bits S8x4 = agree (λ b. bit_and b 14) (sub_first_block S8x4) refl
sub-bits S4x8 = agree (λ b. bit_and b 11) (sub_first_block S4x8) refl
sub-bits S4x4 = agree (λ b. bit_and b 15) (sub_first_block S4x4) refl

pub kept-sub : (z : ℤ) (s : SubSplit) → sub_split_of z ≡ s → (b : ℕ) → b < 16 → bit_and b (sub_bits s) ≡ sub_first_block (sub_split_of z) b
kept-sub z s e b h = sub-bits s b h ∙ ap (λ (s : SubSplit). sub_first_block s b) (sym e)

-- and by the type
pub kept-all : (b : ℕ) → b < 16 → bit_and b 15 ≡ b
kept-all = sub-bits S4x4

pub kept-none : (b : ℕ) → bit_and b 0 ≡ 0
kept-none b = and_zero_r b

pub kept_row : (b : ℕ) → b < 16 → bit_and b 8 ≡ b / 8 * 8
unfolding all_below
kept_row = agree (λ b. bit_and b 8) (λ b. b / 8 * 8) refl

pub kept-column : (b : ℕ) → b < 16 → bit_and b 2 ≡ b % 4 / 2 * 2
unfolding all_below
kept-column = agree (λ b. bit_and b 2) (λ b. b % 4 / 2 * 2) refl

pub kept-below : (b keep : ℕ) → keep < 16 → bit_and b keep < 16
kept-below b keep h = omega (arith, and_le_r b keep)

-- the four blocks of a quadrant
module _ (r : List ℤ) where
  pub same-quadrants : rule6 r ≡ all_below 4 (λ q. all_below 4 (λ k. as_first r (raster_of q k)))
  same-quadrants = same-all r ∙ by-quadrants (as_first r)

  module _ (q keep : ℕ) (hq : q < 4) (firsts : (b : ℕ) → b < 16 → quadrant_of b ≡ q → bit_and b keep ≡ first_block_of r b) where
    abbrev same : ℕ → Bool
    same b = same_motion (motion_of r b) (motion_of r (bit_and b keep))

    abbrev i : ℕ
    i = 8 * (q / 2) + 2 * (q % 2)

    at : (k : ℕ) → i + get_or (0 ∷ 1 ∷ 4 ∷ 5 ∷ []) k 0 ≡ raster_of q k
    at k = ap (λ (n : ℕ). n + get_or (0 ∷ 1 ∷ 4 ∷ 5 ∷ []) k 0) (first-at q hq)

    one_same : (k : ℕ) → k < 4 → same (raster_of q k) ≡ as_first r (raster_of q k)
    one_same k hk = ap (λ (d : ℕ). same_motion (motion_of r (raster_of q k)) (motion_of r d)) (firsts (raster_of q k) (raster-below q k hq hk) (raster-quadrant q k hq hk))

    pub quadrant-same : (((same i && same (i + 1)) && same (i + 4)) && same (i + 5)) ≡ all_below 4 (λ k. as_first r (raster_of q k))
    unfolding all_below
    quadrant-same =
        let at0 : i ≡ raster_of q 0 = sym (add-zero i) ∙ at 0 in
        (λ j. ((same (at0 j) && same (at 1 j)) && same (at 2 j)) && same (at 3 j)) ∙ below-same 4 (λ k. same (raster_of q k)) (λ k. as_first r (raster_of q k)) one_same
