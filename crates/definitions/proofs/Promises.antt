-- The sentences of demand 3, of what is made of a macroblock (specs/Answer): all but the one on other records. Assumes nothing.
use Prim.Native.Nat.{ℕ, ◌≤◌, ◌<◌}
use mathlib.Core.Path.{◌≡◌, refl, sym, ap, subst, ◌∙◌}
use mathlib.Core.Bool.{true, false, true≢false}
use mathlib.Core.List.Memᴰ
use mathlib.Core.List.{List, [], ◌∷◌, map, Memᴰ}
use mathlib.Core.Logic.{◌↔◌}
use native.Mathlib.Omega.{arith}
use lib.Count.{ones}
use lib.Dec.{T, ltb, lit<}
use lib.IntN.{ℤ, pos}
use lib.ListN.{get_or, take}
use Rattle.definitions.specs.declared.Axes.{Axes}
use Rattle.definitions.specs.declared.Basis.{Basis}
use Rattle.definitions.specs.declared.Motion.{Motion}
use Rattle.definitions.specs.declared.SubSplit.{SubSplit}
use Rattle.definitions.specs.declared.SubSplit.TheVariants.{S8x8, S8x4, S4x8, S4x4}
use Rattle.definitions.specs.declared.Split.{Split}
use Rattle.definitions.specs.declared.Split.TheVariants.{S16x16, S16x8, S8x16, S8x8 as Quarters}
use Rattle.definitions.specs.declared.Answer.{Answer}
use Rattle.definitions.specs.declared.Answer.TheVariants.{Outside, Intra, Inherited}
use Rattle.definitions.specs.Basics.{pick, up_to}
use Rattle.definitions.specs.Accepted.{Inside}
use Rattle.definitions.specs.Geometry.{base_size, scaled_size, c_of, sample_of, macroblocks, inside}
use Rattle.definitions.specs.Splits.{one_each, count}
use Rattle.definitions.specs.Record.{motion_of, detail_of, type_number, sub_type_number, sub_split_of, split_said, laid_out, all_one}
use Rattle.definitions.specs.Inheriting.{blocks_reading_intra, intra_set, gathered, resolved, at, motion_at, scaled_prediction, scaled_motion, inherited_motions, chosen}
use Rattle.definitions.specs.Answer.{basis_at, answer_origin, answer_detail, answer_fed, columns_named, rows_named, sub_types, divided_by, unused_motion, written_for}
use Rattle.definitions.specs.Demand3.{origin_by_paper, detail_by_paper, fed_by_paper}
use Rattle.definitions.specs.Blocks.{quadrant_of, raster_of}
use Rattle.definitions.proofs.Choices.{yes, no}
use Rattle.definitions.proofs.Sets.{intra-count}
use Rattle.definitions.proofs.Answers.{Decided, is-outside, is-intra, is-inherited}
use Rattle.definitions.proofs.Addresses.{column-below, row_below}
use Rattle.definitions.proofs.Blocks.{one_same}
use Rattle.definitions.proofs.Fewest.{Fewest, chosen-fewest}
use Rattle.definitions.proofs.Steps.{resolved-settled}
use Rattle.definitions.proofs.Records.{each16, laid-types, laid-motion, laid-detail}

-- two answers of different sorts are not the same
unfoldable pub sort : Answer → ℕ
sort Outside = 0
sort (Intra n) = 1
sort (Inherited n s) = 2

pub other-sort : {a b : Answer} → a ≡ b → (sort a ≡ sort b → ⊥) → ⊥
other-sort e f = f (ap sort e)

-- a record says the split that it was laid out by
sub-said : (t : SubSplit) → sub_split_of (pos (sub_type_number t)) ≡ t
unfolding pick
sub-said S8x8 = refl
sub-said S8x4 = refl
sub-said S4x8 = refl
sub-said S4x4 = refl

pub split-said : (s : Split) (m : ℕ → Motion) (d : ℤ) → split_said (laid_out (divided_by s m d)) ≡ s
unfolding pick split_said laid_out up_to
split-said S16x16 m d = refl
split-said S16x8 m d = refl
split-said S8x16 m d = refl
split-said (Quarters t) m d =
    λ i. Quarters (record { a = sub-said t.a i; b = sub-said t.b i; c = sub-said t.c i; d = sub-said t.d i })

module _ (g : Axes) (base : List ℤ) (column row : ℕ) where
  abbrev set : ℕ
  set = intra_set g base column row

  abbrev motions : List (List Motion)
  motions = inherited_motions g base column row

  -- class, first column and row
  pub origin-right : {answer : Answer} → Decided g base column row answer → answer_origin answer ≡ origin_by_paper g column row
  unfolding basis_at
  origin-right (is-outside e) = sym (no _ _ e)
  origin-right (is-intra e m) = sym (yes _ _ e)
  origin-right (is-inherited e m) = sym (yes _ _ e)

  -- detail, and the last word of the record
  pub detail-right : {answer : Answer} → Decided g base column row answer → answer_detail answer ≡ detail_by_paper g base column row
  unfolding basis_at
  detail-right (is-outside e) = sym (no _ _ e)
  detail-right (is-intra e m) = sym (yes _ _ e)
  detail-right (is-inherited e m) = sym (yes _ _ e)

  pub detail-written : (answer : Answer) → detail_of (written_for answer motions) ≡ pos (answer_detail answer)
  unfolding written_for
  detail-written Outside = laid-detail (all_one 5 unused_motion (pos 0))
  detail-written (Intra b) = laid-detail (all_one 0 unused_motion (pos b.detail))
  detail-written (Inherited b s) = laid-detail (divided_by s (motion_at motions) (pos b.detail))

  -- what fed it
  pub fed-right : {answer : Answer} → Decided g base column row answer → answer_fed answer ≡ fed_by_paper g column row
  unfolding basis_at
  fed-right (is-outside e) = sym (no _ _ e)
  fed-right (is-intra e m) = sym (yes _ _ e)
  fed-right (is-inherited e m) = sym (yes _ _ e)

  -- the sort
  count-is : ones set ≡ blocks_reading_intra g base column row
  count-is = intra-count g base column row

  pub inherited-when : {answer : Answer} → Decided g base column row answer → ((b : Basis) × (s : Split) × (answer ≡ Inherited b s)) ↔ ((inside g column row ≡ true) × (blocks_reading_intra g base column row ≤ 8))
  unfolding sort
  inherited-when (is-outside e) = (λ w. absurd (other-sort w.2 (λ q. omega arith)), λ w. absurd (true≢false (sym w.0 ∙ e)))
  inherited-when (is-intra e m) = (λ w. absurd (other-sort w.2 (λ q. omega arith)), λ w. absurd (omega (arith, count-is, m, w.1)))
  inherited-when (is-inherited e m) = (λ w. (e, omega (arith, count-is, m)), λ w. (_, _, refl))

  pub intra-when : {answer : Answer} → Decided g base column row answer → ((b : Basis) × (answer ≡ Intra b)) ↔ ((inside g column row ≡ true) × (9 ≤ blocks_reading_intra g base column row))
  unfolding sort
  intra-when (is-outside e) = (λ w. absurd (other-sort w.1 (λ q. omega arith)), λ w. absurd (true≢false (sym w.0 ∙ e)))
  intra-when (is-intra e m) = (λ w. (e, omega (arith, count-is, m)), λ w. (_, refl))
  intra-when (is-inherited e m) = (λ w. absurd (other-sort w.1 (λ q. omega arith)), λ w. absurd (omega (arith, count-is, m, w.1)))

  pub outside-when : {answer : Answer} → Decided g base column row answer → (answer ≡ Outside) ↔ (inside g column row ≡ false)
  unfolding sort
  outside-when (is-outside e) = (λ w. e, λ w. refl)
  outside-when (is-intra e m) = (λ w. absurd (other-sort w (λ q. omega arith)), λ w. absurd (true≢false (sym e ∙ w)))
  outside-when (is-inherited e m) = (λ w. absurd (other-sort w (λ q. omega arith)), λ w. absurd (true≢false (sym e ∙ w)))

  -- the written record outside
  pub nothing_written : {answer : Answer} → Decided g base column row answer → inside g column row ≡ false → (i : ℕ) → i < 16 → motion_of (written_for answer motions) i ≡ unused_motion
  unfolding written_for
  nothing_written (is-outside e) w = λ i h. laid-motion (all_one 5 unused_motion (pos 0)) i h refl refl
  nothing_written (is-intra e m) w = λ i h. absurd (true≢false (sym e ∙ w))
  nothing_written (is-inherited e m) w = λ i h. absurd (true≢false (sym e ∙ w))

  -- inherited, the split is the one that is chosen
  split-chosen : {answer : Answer} → Decided g base column row answer → (b : Basis) (s : Split) → answer ≡ Inherited b s → s ≡ chosen motions
  unfolding sort
  split-chosen (is-outside e) n s q = absurd (other-sort q (λ r. omega arith))
  split-chosen (is-intra e m) n s q = absurd (other-sort q (λ r. omega arith))
  split-chosen (is-inherited e m) n s q = cc

  -- after steps 1 to 3 a quadrant's blocks share both references, and step 4 keeps them
  abbrev Shared : ℕ → Type 0
  Shared i =
      ((motion_at motions (raster_of (quadrant_of i) 0)).list0.reference ≡ (motion_at motions i).list0.reference)
      × ((motion_at motions (raster_of (quadrant_of i) 0)).list1.reference ≡ (motion_at motions i).list1.reference)

  shared : (i : ℕ) → i < 16 → Shared i
  unfolding inherited_motions scaled_motion scaled_prediction
  shared =
      each16 Shared (of 0 0 tt tt) (of 0 1 tt tt) (of 1 0 tt tt) (of 1 1 tt tt) (of 0 2 tt tt) (of 0 3 tt tt) (of 1 2 tt tt) (of 1 3 tt tt)
      (of 2 0 tt tt) (of 2 1 tt tt) (of 3 0 tt tt) (of 3 1 tt tt) (of 2 2 tt tt) (of 2 3 tt tt) (of 3 2 tt tt) (of 3 3 tt tt)
    where
      of : (q k : ℕ) → T (ltb q 4) → T (ltb k 4)
          → ((at (resolved set (gathered g base column row)) q 0).list0.reference ≡ (at (resolved set (gathered g base column row)) q k).list0.reference)
          × ((at (resolved set (gathered g base column row)) q 0).list1.reference ≡ (at (resolved set (gathered g base column row)) q k).list1.reference)
      of q k x y =
          let s = resolved-settled set (gathered g base column row) q (lit< x) in
          (sym (s.one0 k (lit< y)), sym (s.one1 k (lit< y)))

  -- inherited, each block read back from the written record has the motion that map and steps fix;
  pub motions-written : {answer : Answer} → (b : Basis) (s : Split) → answer ≡ Inherited b s → (i : ℕ) → i < 16 → motion_of (written_for answer motions) i ≡ motion_at motions i
  unfolding written_for
  motions-written n s q i h =
      ap (λ (a : Answer). motion_of (written_for a motions) i) q ∙ laid-motion (divided_by s (motion_at motions) (pos n.detail)) i h (shared i h).0 (shared i h).1

  -- one motion in each piece, and every other split with one motion in each has more pieces;
  pub fewest-written : {answer : Answer} → Decided g base column row answer → (b : Basis) (s : Split) → answer ≡ Inherited b s → Fewest (motion_of (written_for answer motions)) s
  fewest-written {answer} d n s q =
      let f = chosen-fewest motions in
      let e = split-chosen d n s q in
      let same : (t : Split) → one_each (motion_of (written_for answer motions)) t ≡ one_each (motion_at motions) t = λ t. one_same _ _ (motions-written n s q) t in
      record {
        one = same s ∙ (ap (one_each (motion_at motions)) e ∙ f.one);
        more = λ t o other. subst (λ (u : Split). count u < count t) (sym e) (f.more t (sym (same t) ∙ o) (λ w. other (w ∙ sym e)));
      }

  -- and the first five words say the split
  pub split-written : {answer : Answer} → (b : Basis) (s : Split) → answer ≡ Inherited b s → take 5 (written_for answer motions) ≡ pos (type_number s) ∷ map pos (sub_types s)
  unfolding written_for
  split-written n s q =
      ap (λ (a : Answer). take 5 (written_for a motions)) q ∙ (laid-types (divided_by s (motion_at motions) (pos n.detail)) ∙ types_are s)
    where
      types_are : (s : Split)
          → pos (type_number s) ∷ pos (get_or (sub_types s) 0 0) ∷ pos (get_or (sub_types s) 1 0) ∷ pos (get_or (sub_types s) 2 0) ∷ pos (get_or (sub_types s) 3 0) ∷ []
          ≡ pos (type_number s) ∷ map pos (sub_types s)
      types_are S16x16 = refl
      types_are S16x8 = refl
      types_are S8x16 = refl
      types_are (Quarters t) = refl

  pub said-written : {answer : Answer} → (b : Basis) (s : Split) → answer ≡ Inherited b s → split_said (written_for answer motions) ≡ s
  unfolding written_for
  said-written n s q = ap (λ (a : Answer). split_said (written_for a motions)) q ∙ split-said s (motion_at motions) (pos n.detail)

  -- the base macroblocks that are named lie inside the base
  module _ (h : inside g column row ≡ true → Inside (base_size g.horizontal) (scaled_size g.horizontal) (c_of g.horizontal (sample_of column))) (v : inside g column row ≡ true → Inside (base_size g.vertical) (scaled_size g.vertical) (c_of g.vertical (sample_of row))) where
    pub columns-below : {answer : Answer} → Decided g base column row answer → (x : ℕ) → Memᴰ x (columns_named answer) → x < macroblocks (base_size g.horizontal)
    unfolding basis_at
    columns-below (is-outside e) x m = absurd (Memᴰ.not-nil m)
    columns-below (is-intra e k) x m = column-below g column row (h e) (v e) m
    columns-below (is-inherited e k) x m = column-below g column row (h e) (v e) m

    pub rows-below : {answer : Answer} → Decided g base column row answer → (y : ℕ) → Memᴰ y (rows_named answer) → y < macroblocks (base_size g.vertical)
    unfolding basis_at
    rows-below (is-outside e) y m = absurd (Memᴰ.not-nil m)
    rows-below (is-intra e k) y m = row_below g column row (h e) (v e) m
    rows-below (is-inherited e k) y m = row_below g column row (h e) (v e) m
