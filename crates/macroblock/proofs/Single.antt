-- Where one macroblock is read: the set is all or nothing, and one motion in the record is one motion for all blocks. Assumes nothing.
use Prim.Native.Nat.{ℕ, ◌+◌, ◌*◌, ◌/◌, ◌%◌, ◌≤◌, ◌<◌}
use native.Mathlib.Nat.{div-mul-le_self, le-div_iff_mul-le, le_trans}
use mathlib.Core.Path.{◌≡◌, refl, sym, ap, ◌∙◌}
use mathlib.Core.Bool.{Bool, true, false, ◌&&◌, ◌||◌}
use mathlib.Core.List.{List, [], ◌∷◌}
use mathlib.Core.Logic.{⊎_elim}
use native.Mathlib.Omega.{arith}
use lib.IntN.{ℤ, pos}
use lib.ListN.{get_or}
use lib.Count.{ones, ones_in, ones_step}
use borrow.Author.Tests.{eqb-true, le-leb}
use Rattle.definitions.specs.declared.Motion.{Motion}
use Rattle.definitions.specs.declared.Split.TheVariants.{S16x16}
use Rattle.definitions.specs.Basics.{pick, eq_z, four, up_to, set_of}
use Rattle.definitions.specs.Record.{all_one, record_at, is_intra, type_of, sub_type_of, motion_of, laid_out}
use Rattle.definitions.specs.Inheriting.{zero_motion, mostly_intra, merged, resolved, motion_at, chosen}
use Rattle.definitions.specs.Answer.{divided_by}
use Rattle.definitions.specs.Blocks.{quadrant_of}
use Rattle.definitions.proofs.Choices.{both_true, either_true, each, four_same, yes, no}
use Rattle.definitions.proofs.Fewest.{chosen_is}
use Rattle.definitions.proofs.Motions.{motion-same}
use Rattle.records.proofs.Undivided.{whole, undivided}
use Rattle.definitions.proofs.Sameness.{set_same}
use Rattle.definitions.proofs.Shapes.{same_pairs, shape_of, quadrant_shape, shapes_of, split_of, all_whole}
use Rattle.definitions.proofs.Steps.{settled-merged}
use Rattle.gather.specs.Reads.{ReadableAt, Rising, block_at, record_read, motion_read, read_by, motion_by, set_by, gathered_by}
use Rattle.macroblock.specs.declared.Fixed.{Fixed}
use Rattle.macroblock.specs.Made.{Ready, detail_inside, inherited_inside, motions_inside, one_part, resolved_inside}
use Rattle.motion.specs.Scales.{all_scaled, motion_scaled}
use Rattle.macroblock.proofs.Motions.{merged-only, read-empty}

div-rises : (d a b : ℕ) → 0 < d → a ≤ b → a / d ≤ b / d
div-rises d a b p h = (le-div_iff_mul-le p).1 (le_trans (div-mul-le_self a d) h)

one-part : (d : ℕ) (x : List ℕ) → 0 < d → Rising x → one_part d x ≡ true → (i : ℕ) → i < 4 → get_or x i 0 / d ≡ get_or x 0 0 / d
one-part d x p r e =
    let last = eqb-true (get_or x 3 0 / d) (get_or x 0 0 / d) e in
    let low : (n : ℕ) → get_or x 0 0 ≤ n → n ≤ get_or x 3 0 → n / d ≡ get_or x 0 0 / d =
    λ n a b. let top = div-rises d n (get_or x 3 0) p b in let bottom = div-rises d (get_or x 0 0) n p a in omega (arith, top, bottom, last) in
    each (λ i. get_or x i 0 / d ≡ get_or x 0 0 / d) refl (low (get_or x 1 0) (omega (arith, r)) (omega (arith, r))) (low (get_or x 2 0) (omega (arith, r)) (omega (arith, r))) last

-- the quadrant of the block with coordinates x and y, by their halves
half_is : (u x : ℕ) → u / 2 ≡ x / 2 → u % 4 / 2 ≡ x % 4 / 2
half_is u x e = omega arith

quadrant-is : (x y : ℕ) → quadrant_of (block_at x y) ≡ 2 * (y % 4 / 2) + x % 4 / 2
quadrant-is x y = omega arith

same-quadrant : (u w x y : ℕ) → u / 2 ≡ x / 2 → w / 2 ≡ y / 2 → quadrant_of (block_at u w) ≡ quadrant_of (block_at x y)
same-quadrant u w x y p q = quadrant-is u w ∙ ((λ i. 2 * half_is w y q i + half_is u x p i) ∙ sym (quadrant-is x y))

-- a set of all sixteen, and of none
pub all-or-none : (t : Bool) → set_of 16 (λ i. t) ≡ pick t 65535 0
unfolding set_of pick
all-or-none true = refl
all-or-none false = refl

-- sixteen blocks of one motion are one piece
uniform : (m : Motion) → split_of (four (λ q. four (λ k. m))) ≡ S16x16
unfolding split_of shapes_of quadrant_shape shape_of same_pairs all_whole pick
uniform m = rw (motion-same m m refl)

pub mostly-all : mostly_intra 65535 ≡ true
mostly-all =
    le-leb 9 (ones 65535) (omega (
      arith,
      ones_step 65535,
      ones_step 32767,
      ones_step 16383,
      ones_step 8191,
      ones_step 4095,
      ones_step 2047,
      ones_step 1023,
      ones_step 511,
      ones_step 255,
    ))

pub mostly-none : mostly_intra 0 ≡ false
unfolding ones ones_in
mostly-none = refl

module _ {limit : ℕ} {f : Fixed} {across down : List ℕ} {base : List ℤ} (ready : Ready limit f across down base) (one : (one_part 4 across && one_part 4 down) ≡ true) where
  abbrev width : ℕ
  width = f.width

  abbrev x : ℕ
  x = get_or across 0 0

  abbrev y : ℕ
  y = get_or down 0 0

  abbrev it : List ℤ
  it = record_read width base x y

  pub first-readable : ReadableAt limit width base x y
  first-readable = ready.readable 0 (omega arith)

  same_read : (i : ℕ) → i < 16 → read_by width across down base i ≡ it
  same_read i l =
      let both = both_true (one_part 4 across) (one_part 4 down) one in
      let p = one-part 4 across (omega arith) ready.columns both.0 (i % 4) (omega arith) in
      let q = one-part 4 down (omega arith) ready.rows both.1 (i / 4) (omega arith) in
      λ t. record_at base (q t * width + p t)

  set_is : set_by width across down base ≡ pick (is_intra it) 65535 0
  unfolding set_by
  set_is = set_same 16 _ (λ i. is_intra it) (λ i l. ap is_intra (same_read i l)) ∙ all-or-none (is_intra it)

  pub set_all : is_intra it ≡ true → 65535 ≡ set_by width across down base
  set_all e = sym (set_is ∙ yes _ _ e)

  pub set-none : is_intra it ≡ false → 0 ≡ set_by width across down base
  set-none e = sym (set_is ∙ no _ _ e)

  -- ---- one motion
  module _ (not-intra : is_intra it ≡ false) where
    abbrev n : Motion
    n = motion_read width base x y

    abbrev AllRead : Type 0
    AllRead = (i : ℕ) → i < 16 → motion_by width across down base i ≡ n

    abbrev block_of : ℕ → ℕ
    block_of i = block_at (get_or across (i % 4) 0) (get_or down (i / 4) 0)

    abbrev block : ℕ
    block = block_at x y

    by_blocks : ((i : ℕ) → i < 16 → motion_of it (block_of i) ≡ motion_of it block) → AllRead
    unfolding motion_read
    by_blocks e i l = ap (λ (r : List ℤ). motion_of r (block_of i)) (same_read i l) ∙ e i l

    -- a record of type 1, or one quadrant read that is not divided
    pub one-read : (eq_z (type_of it) (pos 1) || ((one_part 2 across && one_part 2 down) && eq_z (sub_type_of it (quadrant_of block)) (pos 0))) ≡ true → AllRead
    one-read e =
        ⊎_elim
        (λ t. by_blocks (λ i l. whole limit it first-readable.formed not-intra (block_of i) block (omega arith) (omega arith) t))
        (λ t.
        let quarter = both_true (one_part 2 across && one_part 2 down) (eq_z (sub_type_of it (quadrant_of block)) (pos 0)) t in
        let halves = both_true (one_part 2 across) (one_part 2 down) quarter.0 in
        by_blocks (λ i l.
        let p = one-part 2 across (omega arith) ready.columns halves.0 (i % 4) (omega arith) in
        let q = one-part 2 down (omega arith) ready.rows halves.1 (i / 4) (omega arith) in
        undivided limit it first-readable.formed not-intra (block_of i) block (omega arith) (omega arith) (same-quadrant _ _ x y p q) quarter.1))
        (either_true (eq_z (type_of it) (pos 1)) ((one_part 2 across && one_part 2 down) && eq_z (sub_type_of it (quadrant_of block)) (pos 0)) e)

    module _ (all : AllRead) where
      abbrev quadrant : List Motion
      quadrant = four (λ k. n)

      settled : merged quadrant ≡ quadrant
      settled =
          let empty = read-empty width base x y first-readable in
          settled-merged quadrant (record {
            one0 = each _ refl refl refl refl;
            one1 = each _ refl refl refl refl;
            zero0 = each _ empty.0 empty.0 empty.0 empty.0;
            zero1 = each _ empty.1 empty.1 empty.1 empty.1;
          })

      -- four blocks of it, merged
      unchanged : {a b c d : Motion} → a ≡ n → b ≡ n → c ≡ n → d ≡ n → quadrant ≡ merged (a ∷ b ∷ c ∷ d ∷ [])
      unchanged p q s t = sym (ap merged (four_same p q s t) ∙ settled)

      resolved-is : resolved_inside f across down base ≡ four (λ q. quadrant)
      unfolding resolved_inside
      resolved-is =
          ap (λ (s : ℕ). resolved s (gathered_by width across down base)) (sym (set-none not-intra))
          ∙ sym (merged-only width across down base
          (unchanged (all 0 (omega arith)) (all 1 (omega arith)) (all 4 (omega arith)) (all 5 (omega arith)))
          (unchanged (all 2 (omega arith)) (all 3 (omega arith)) (all 6 (omega arith)) (all 7 (omega arith)))
          (unchanged (all 8 (omega arith)) (all 9 (omega arith)) (all 12 (omega arith)) (all 13 (omega arith)))
          (unchanged (all 10 (omega arith)) (all 11 (omega arith)) (all 14 (omega arith)) (all 15 (omega arith))))

      whole-motions : motions_inside f across down base ≡ four (λ q. four (λ k. motion_scaled f.scales n))
      unfolding motions_inside all_scaled
      whole-motions = ap (λ (m : List (List Motion)). four (λ q. four (λ k. motion_scaled f.scales (get_or (get_or m q []) k zero_motion)))) resolved-is

      whole_split : S16x16 ≡ chosen (motions_inside f across down base)
      whole_split = sym (ap chosen whole-motions ∙ (chosen_is (four (λ q. four (λ k. motion_scaled f.scales n))) ∙ uniform (motion_scaled f.scales n)))

      one-laid : (m : Motion) (d : ℤ) → laid_out (all_one 1 m d) ≡ laid_out (divided_by S16x16 (motion_at (four (λ q. four (λ k. m)))) d)
      unfolding laid_out up_to
      one-laid m d = refl

      pub whole-written : {m : Motion} → m ≡ motion_scaled f.scales n → laid_out (all_one 1 m (pos (detail_inside f across down base))) ≡ inherited_inside f across down base
      unfolding inherited_inside
      whole-written {m} e =
          let p = whole_split in
          let q = ap (λ (m : Motion). four (λ j. four (λ k. m))) e ∙ sym whole-motions in
          one-laid m (pos (detail_inside f across down base)) ∙ (λ i. laid_out (divided_by (p i) (motion_at (q i)) (pos (detail_inside f across down base))))
