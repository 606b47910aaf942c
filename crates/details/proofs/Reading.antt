-- The detail of a macroblock by the bits of the macroblocks that its corner blocks read (specs/Bits). Assumes nothing.
use Prim.Native.Nat.{ℕ, ◌+◌, ◌-◌, ◌*◌, ◌/◌, ◌%◌, ◌^◌, ◌≤◌, ◌<◌}
use mathlib.Core.Path.{◌≡◌, refl, sym, ap, subst, ◌∙◌}
use mathlib.Core.Bool.{Bool, true, false}
use mathlib.Core.List.{List, [], ◌∷◌}
use mathlib.Core.Logic.{⊎_elim}
use native.Mathlib.Nat.{eq-or-lt_of_le}
use native.Mathlib.Omega.{arith}
use lib.Bits.{bit_and, bit_or}
use lib.IntN.{ℤ, nat_abs}
use lib.ListN.{get_or}
use Rattle.definitions.specs.Basics.{bit_set, pick, up_to, set_of, some_of}
use Rattle.definitions.specs.BlockMap.{block_in, column_of}
use Rattle.definitions.specs.Blocks.{quadrant_of}
use Rattle.definitions.specs.Record.{detail_of, record_at, rule7}
use Rattle.definitions.proofs.Choices.{each, four_same}
use Rattle.definitions.proofs.Formed.{rules-of}
use Rattle.definitions.proofs.Sameness.{set_same}
use Rattle.records.proofs.Words.{four-bits}
use Rattle.gather.specs.Reads.{Readable, Rising, block_at, record_read}
use Rattle.gather.proofs.Sets.{bit, bits-set}
use Rattle.details.specs.Bits.{InOne, as_rows, detail_by, detail_read, details_by, four_masked, halves_of, masked, pair_of, place_of, quadrant_reads, word_read}
use Rattle.details.proofs.Masks.{bit-first, bit-fourth, bit-second, bit-third, half_at, in_half, mask_is, masked-four, one_bit, pair, pair-below, pair-in, place}

-- ---- Along an axis
-- each coordinate lies between the first and the last
between : (x : List ℕ) → Rising x → (i : ℕ) → i < 4 → (get_or x 0 0 ≤ get_or x i 0) × (get_or x i 0 ≤ get_or x 3 0)
between x r =
    each (λ i. (get_or x 0 0 ≤ get_or x i 0) × (get_or x i 0 ≤ get_or x 3 0))
    (omega (arith, r), omega (arith, r)) (omega (arith, r), omega (arith, r)) (omega (arith, r), omega (arith, r)) (omega (arith, r), omega (arith, r))

-- which half of the four that two macroblocks have a block lies in, and where its bits stand
abbrev half : ℕ → ℕ → ℕ
half first x = 2 * (column_of x - column_of first) + block_in x / 2

half-below : (x : List ℕ) → Rising x → (i : ℕ) → i < 4 → half (get_or x 0 0) (get_or x i 0) < 4
half-below x r i h = omega (arith, r, between x r i h)

half_place : (first x : ℕ) → place (half first x) ≡ place_of first x
half_place first x = omega arith

-- a block lies in the macroblock of the first block, or else in that of the last one, which is the next
by_side : (P : Type 0) (x : List ℕ) → Rising x → (i : ℕ) → i < 4
    → (column_of (get_or x 0 0) ≡ column_of (get_or x i 0) → P)
    → (column_of (get_or x 3 0) ≡ column_of (get_or x i 0) → column_of (get_or x i 0) ≡ column_of (get_or x 0 0) + 1 → P)
    → P
by_side P x r i h near far =
    ⊎_elim near
    (λ l. far (omega (arith, r, between x r i h, l)) (omega (arith, r, between x r i h, l)))
    (eq-or-lt_of_le (let q : column_of (get_or x 0 0) ≤ column_of (get_or x i 0) = omega (arith, between x r i h) in q))

-- the sets of an axis as a table of eight gives them, and that they are sets of six
half_of : (x : List ℕ) → Rising x → (i : ℕ) → i < 4 → get_or (up_to 8 in_half) (get_or x i 0 - get_or x 0 0 / 4 * 4) 0 ≡ 2 ^ place_of (get_or x 0 0) (get_or x i 0)
half_of x r i h =
    let k : ℕ = get_or x i 0 - get_or x 0 0 / 4 * 4 in
    let e : 4 * (k / 4) + k % 4 / 2 ≡ place_of (get_or x 0 0) (get_or x i 0) = omega (arith, between x r i h) in
    half_at k (omega (arith, r, between x r i h)) ∙ ap (λ (p : ℕ). 2 ^ p) e

abbrev pub halves_by : List ℕ → List ℕ → List ℕ
halves_by table x =
    bit_or (get_or table (get_or x 0 0 - get_or x 0 0 / 4 * 4) 0) (get_or table (get_or x 1 0 - get_or x 0 0 / 4 * 4) 0)
    ∷ bit_or (get_or table (get_or x 2 0 - get_or x 0 0 / 4 * 4) 0) (get_or table (get_or x 3 0 - get_or x 0 0 / 4 * 4) 0) ∷ []

pub halves_are : (x : List ℕ) → Rising x → halves_by (up_to 8 in_half) x ≡ halves_of x
unfolding halves_of
halves_are x r =
    let a = half_of x r 0 (omega arith) in
    let b = half_of x r 1 (omega arith) in
    let c = half_of x r 2 (omega arith) in
    let d = half_of x r 3 (omega arith) in
    λ t. bit_or (a t) (b t) ∷ bit_or (c t) (d t) ∷ []

pub halves-below : (x : List ℕ) → Rising x → (get_or (halves_of x) 0 0 < 64) × (get_or (halves_of x) 1 0 < 64)
unfolding halves_of
halves-below x r =
    let set : (i : ℕ) → i + 1 < 4 → pair_of (get_or x 0 0) (get_or x i 0) (get_or x (i + 1) 0) < 64 =
    λ i h. subst (λ (n : ℕ). n < 64) (λ t. pair (half_place (get_or x 0 0) (get_or x i 0) t) (half_place (get_or x 0 0) (get_or x (i + 1) 0) t))
    (pair-below _ _ (half-below x r i (omega arith)) (half-below x r (i + 1) h)) in
    (set 0 (omega arith), set 2 (omega arith))

-- below 4 where all lie in one macroblock
pub halves_in : (x : List ℕ) → Rising x → InOne 4 x → (get_or (halves_of x) 0 0 < 4) × (get_or (halves_of x) 1 0 < 4)
unfolding halves_of
halves_in x r one =
    let set : (i : ℕ) → i + 1 < 4 → pair_of (get_or x 0 0) (get_or x i 0) (get_or x (i + 1) 0) < 4 =
    λ i h. subst (λ (n : ℕ). n < 4) (λ t. pair (half_place (get_or x 0 0) (get_or x i 0) t) (half_place (get_or x 0 0) (get_or x (i + 1) 0) t))
    (pair-in (half (get_or x 0 0) (get_or x i 0)) (half (get_or x 0 0) (get_or x (i + 1) 0))
    (omega (arith, between x r i (omega arith), one)) (omega (arith, between x r (i + 1) h, one))) in
    (set 0 (omega arith), set 2 (omega arith))

-- ---- Four bits that are all the same
some_same : (t : Bool) → some_of (t ∷ t ∷ t ∷ t ∷ []) ≡ t
unfolding some_of
some_same true = refl
some_same false = refl

fifteen : (t : Bool) → 15 * bit t ≡ set_of 4 (λ q. t)
unfolding set_of pick
fifteen true = refl
fifteen false = refl

-- ---- By sets of columns and rows
module _ (width : ℕ) (across down : List ℕ) (base : List ℤ) (a : Rising across) (d : Rising down) where
  abbrev x : ℕ → ℕ
  x i = get_or across i 0

  abbrev y : ℕ → ℕ
  y j = get_or down j 0

  abbrev reads : ℕ → ℕ → Bool
  reads i j = detail_read width base (x i) (y j)

  -- those of a quadrant whose first block is at i and k
  abbrev square : ℕ → ℕ → List Bool
  square i k = reads i k ∷ reads (i + 1) k ∷ reads i (k + 1) ∷ reads (i + 1) (k + 1) ∷ []

  -- the bit of what each block reads stands in n at its place
  abbrev Holds : ℕ → Type 0
  Holds n = (i j : ℕ) → i < 4 → j < 4 → bit_set n (place_of (x 0) (x i) + 2 * place_of (y 0) (y j)) ≡ reads i j

  module _ (n : ℕ) (holds : Holds n) where
    -- a quadrant, by its two columns and its two rows
    quadrant : (i k : ℕ) → i + 1 < 4 → k + 1 < 4
        → masked n (pair_of (x 0) (x i) (x (i + 1)) * as_rows (pair_of (y 0) (y k) (y (k + 1)))) ≡ bit (some_of (square i k))
    quadrant i k hi hk =
        let p = half_place (x 0) (x i) in
        let q = half_place (x 0) (x (i + 1)) in
        let r = half_place (y 0) (y k) in
        let s = half_place (y 0) (y (k + 1)) in
        (λ t. masked n (pair (sym p t) (sym q t) * as_rows (pair (sym r t) (sym s t))))
        ∙ (ap (masked n) (mask_is _ _ _ _ (half-below across a i (omega arith)) (half-below across a (i + 1) hi) (half-below down d k (omega arith)) (half-below down d (k + 1) hk))
        ∙ (masked-four n _ _ _ _
        ∙ ((λ t. bit (some_of (bit_set n (p t + 2 * r t) ∷ bit_set n (q t + 2 * r t) ∷ bit_set n (p t + 2 * s t) ∷ bit_set n (q t + 2 * s t) ∷ [])))
        ∙ ap (λ (b : List Bool). bit (some_of b))
        (four_same (holds i k (omega arith) (omega arith)) (holds (i + 1) k hi (omega arith)) (holds i (k + 1) (omega arith) hk) (holds (i + 1) (k + 1) hi hk)))))

    by-sets : four_masked n (halves_of across) (halves_of down) ≡ detail_by width across down base
    unfolding detail_by halves_of
    by-sets =
        let e = quadrant 0 0 (omega arith) (omega arith) in
        let f = quadrant 2 0 (omega arith) (omega arith) in
        let g = quadrant 0 2 (omega arith) (omega arith) in
        let h = quadrant 2 2 (omega arith) (omega arith) in
        (λ t. e t + 2 * f t + 4 * g t + 8 * h t) ∙ bits-set (quadrant_reads width across down base)

  -- ---- The bits of the macroblock in a column and a row; which of them is the one of the quadrant that a block reads
  abbrev word : ℕ → ℕ → ℕ
  word column row = nat_abs (detail_of (record_at base (row * width + column)))

  abbrev part : ℕ → ℕ → ℕ
  part i j = block_in (x i) / 2 + 2 * (block_in (y j) / 2)

  read_of : {column row : ℕ} (i j : ℕ) → column ≡ column_of (x i) → row ≡ column_of (y j) → bit_set (word column row) (part i j) ≡ reads i j
  read_of i j p q =
      let e : part i j ≡ quadrant_of (block_at (x i) (y j)) = omega arith in
      λ t. bit_set (word (p t) (q t)) (e t)

  -- ---- Where one macroblock is read, its bits are enough
  pub detail-one : InOne 4 across → InOne 4 down
      → four_masked (word_read width base (x 0) (y 0)) (halves_of across) (halves_of down) ≡ detail_by width across down base
  detail-one o u = by-sets (word_read width base (x 0) (y 0)) (λ i j hi hj.
      let p : column_of (x 0) ≡ column_of (x i) = omega (arith, o, between across a i hi) in
      let q : column_of (y 0) ≡ column_of (y j) = omega (arith, u, between down d j hj) in
      let e : place_of (x 0) (x i) + 2 * place_of (y 0) (y j) ≡ part i j = omega (arith, p, q) in
      ap (bit_set (word (column_of (x 0)) (column_of (y 0)))) e ∙ read_of i j p q)

  -- ---- Where one quadrant of one is read, its bit is all four
  module _ (o : InOne 2 across) (u : InOne 2 down) where
    same_read : (i j : ℕ) → i < 4 → j < 4 → reads i j ≡ reads 0 0
    same_read i j hi hj =
        let p : column_of (x 0) ≡ column_of (x i) = omega (arith, o, between across a i hi) in
        let q : column_of (y 0) ≡ column_of (y j) = omega (arith, u, between down d j hj) in
        let e : part 0 0 ≡ part i j = omega (arith, o, u, between across a i hi, between down d j hj) in
        sym (sym (read_of 0 0 refl refl) ∙ (ap (bit_set (word (column_of (x 0)) (column_of (y 0)))) e ∙ read_of i j p q))

    same-square : (i k : ℕ) → i + 1 < 4 → k + 1 < 4 → some_of (square i k) ≡ reads 0 0
    same-square i k hi hk =
        ap some_of
        (four_same (same_read i k (omega arith) (omega arith)) (same_read (i + 1) k hi (omega arith)) (same_read i (k + 1) (omega arith) hk) (same_read (i + 1) (k + 1) hi hk))
        ∙ some_same (reads 0 0)

    pub detail-quarter : 15 * bit_and (word_read width base (x 0) (y 0) / 2 ^ (2 * (y 0 % 4 / 2) + x 0 % 4 / 2)) 1 ≡ detail_by width across down base
    unfolding detail_by
    detail-quarter =
        let k : 2 * (y 0 % 4 / 2) + x 0 % 4 / 2 ≡ part 0 0 = omega arith in
        ap (λ (e : ℕ). 15 * bit_and (word_read width base (x 0) (y 0) / 2 ^ e) 1) k
        ∙ (ap (λ (b : ℕ). 15 * b) (one_bit (word_read width base (x 0) (y 0)) (part 0 0) ∙ ap bit (read_of 0 0 refl refl))
        ∙ (fifteen (reads 0 0)
        ∙ sym (set_same 4 (quadrant_reads width across down base) (λ q. reads 0 0)
        (each (λ q. quadrant_reads width across down base q ≡ reads 0 0)
        (same-square 0 0 (omega arith) (omega arith)) (same-square 2 0 (omega arith) (omega arith)) (same-square 0 2 (omega arith) (omega arith)) (same-square 2 2 (omega arith) (omega arith))))))

  -- ---- And those of the corners' macroblocks are enough everywhere
  module _ {limit : ℕ} (readable : Readable limit width across down base) where
    small : (i : ℕ) → i < 16 → word_read width base (x (i % 4)) (y (i / 4)) < 16
    unfolding rule7
    small i h = (four-bits (detail_of (record_read width base (x (i % 4)) (y (i / 4)))) (rules-of limit _ (readable i h).formed).detail).1

    pub detail-corners : four_masked (details_by width across down base) (halves_of across) (halves_of down) ≡ detail_by width across down base
    detail-corners = by-sets (details_by width across down base) (λ i j hi hj.
        let ha = small 0 (omega arith) in
        let hb = small 3 (omega arith) in
        let hc = small 12 (omega arith) in
        let n = details_by width across down base in
        let at : ℕ = place_of (x 0) (x i) + 2 * place_of (y 0) (y j) in
        let e : part i j < 4 = omega arith in
        by_side (bit_set n at ≡ reads i j) across a i hi
        (λ p. by_side (bit_set n at ≡ reads i j) down d j hj
        (λ q. let k : at ≡ part i j = omega (arith, p, q) in
        ap (bit_set n) k ∙ (bit-first _ _ _ _ ha hb hc (part i j) e ∙ read_of i j p q))
        (λ q f. let k : at ≡ 4 + (4 + part i j) = omega (arith, p, f) in
        ap (bit_set n) k ∙ (bit-third _ _ _ _ ha hb hc (part i j) e ∙ read_of i j p q)))
        (λ p g. by_side (bit_set n at ≡ reads i j) down d j hj
        (λ q. let k : at ≡ 4 + part i j = omega (arith, g, q) in
        ap (bit_set n) k ∙ (bit-second _ _ _ _ ha hb hc (part i j) e ∙ read_of i j p q))
        (λ q f. let k : at ≡ 4 + (4 + (4 + part i j)) = omega (arith, g, f) in
        ap (bit_set n) k ∙ (bit-fourth _ _ _ _ ha hb hc (part i j) ∙ read_of i j p q))))
