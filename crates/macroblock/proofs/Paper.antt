-- What is made by the axes' readings is what document 01 makes. Assumes nothing.
use Prim.Native.Nat.{ℕ, ◌*◌}
use mathlib.Core.Path.{◌≡◌, refl, sym, ◌∙◌}
use mathlib.Core.Bool.{Bool, true, false, and-false, ◌&&◌}
use mathlib.Core.List.{List, []}
use lib.IntN.{ℤ, pos}
use Rattle.definitions.specs.declared.Axes.{Axes}
use Rattle.definitions.specs.declared.Answer.TheVariants.{Inherited, Intra, Outside}
use Rattle.definitions.specs.declared.Motion.{Motion}
use Rattle.definitions.specs.declared.Basis.{Basis}
use Rattle.macroblock.specs.declared.AxisRead.{AxisRead}
use Rattle.macroblock.specs.declared.Fixed.{Fixed}
use Rattle.common.specs.declared.counts.Sort.{Sort}
use Rattle.common.specs.declared.counts.Sort.TheVariants.{Inherited as SortInherited, Intra as SortIntra, Outside as SortOutside}
use Rattle.definitions.specs.Basics.{pick}
use Rattle.definitions.specs.Geometry.{class_of, inside_axis, inside, sample_of}
use Rattle.definitions.specs.BlockMap.{falls_in, step_of, address_read, block_read}
use Rattle.definitions.specs.Inheriting.{chosen, gathered, inherited_motions, intra_set, mostly_intra, motion_at}
use Rattle.definitions.specs.Record.{laid_out}
use Rattle.definitions.specs.Detail.{detail_at, quadrant_detail}
use Rattle.definitions.specs.Fed.{blocks_reading, fed_at}
use Rattle.definitions.specs.Answer.{Made, answer_of, basis_at, divided_by, made_of, origin_at, without_motion, written_for}
use Rattle.common.specs.Sorts.{sort_of}
use Rattle.definitions.specs.Accepted.{AcceptedAxes}
use Rattle.definitions.proofs.Accepted.{across-inside, down-inside}
use Rattle.definitions.proofs.Choices.{yes, no, and_intro, both_true}
use Rattle.definitions.proofs.Fed.{falls-first, falls-next, reading-product, two-by-falls}
use Rattle.details.specs.Bits.{detail_by}
use Rattle.macroblock.proofs.Reading.{first-column}
use Rattle.definitions.proofs.Answers.{made-outside}
use Rattle.motion.proofs.ByScales.{all-by-scales}
use Rattle.gather.specs.Reads.{motion_read, set_by, gathered_by}
use Rattle.macroblock.specs.Made.{answer_by, answer_for, basis_by, fixed_of, inherited_inside, made_by, motions_inside, nowhere, origin_by, read_in, read_of, resolved_inside, set_inside, sort_by, sort_inside, written_by, written_inside}

-- an answer and its record, where it is intra (u) or inherits
inside-answer : (u : Bool) (b : Basis) (m : List (List Motion)) → pick u (Intra b) (Inherited b (chosen m)) ≡ answer_for (pick u SortIntra SortInherited) b m
unfolding pick
inside-answer true b m = refl
inside-answer false b m = refl

inside-written : (u : Bool) (b : Basis) (m : List (List Motion))
    → written_for (pick u (Intra b) (Inherited b (chosen m))) m ≡ pick u (without_motion 0 (pos b.detail)) (laid_out (divided_by (chosen m) (motion_at m) (pos b.detail)))
unfolding pick written_for
inside-written true b m = refl
inside-written false b m = refl

module _ (g : Axes) (accepted : AcceptedAxes g) (column row : ℕ) (base : List ℤ) where
  abbrev hor : AxisRead
  hor = read_in (step_of g.horizontal (sample_of column))

  abbrev ver : AxisRead
  ver = read_in (step_of g.vertical (sample_of row))

  abbrev made : List (List Motion)
  made = motions_inside (fixed_of g) hor.reads ver.reads base

  abbrev set : ℕ
  set = set_inside (fixed_of g) hor.reads ver.reads base

  motions-same : inherited_motions g base column row ≡ made
  unfolding inherited_motions intra_set gathered address_read block_read motions_inside resolved_inside set_by gathered_by motion_read
  motions-same = sym (all-by-scales g refl (resolved_inside (fixed_of g) hor.reads ver.reads base))

  abbrev basis : Basis
  basis = basis_by (fixed_of g) hor ver base

  both : inside g column row ≡ true → (inside_axis g.horizontal (sample_of column) ≡ true) × (inside_axis g.vertical (sample_of row) ≡ true)
  both e = both_true (inside_axis g.horizontal (sample_of column)) (inside_axis g.vertical (sample_of row)) e

  -- a count, from what falls in its column and in its row
  count_same : {m n : ℕ} (x y : ℕ) → falls_in (step_of g.horizontal (sample_of column)).reads x ≡ m → falls_in (step_of g.vertical (sample_of row)).reads y ≡ n → blocks_reading g column row x y ≡ m * n
  count_same x y p q = reading-product g column row x y ∙ (λ i. p i * q i)

  pub origin-same : inside g column row ≡ true → origin_at g column row ≡ origin_by hor ver
  unfolding origin_at step_of
  origin-same e =
      let x = first-column _ _ _ (across-inside g column row accepted e) in
      let y = first-column _ _ _ (down-inside g column row accepted e) in
      let p = two-by-falls g.horizontal column accepted.horizontal (both e).0 in
      let q = two-by-falls g.vertical row accepted.vertical (both e).1 in
      λ i. record { class = class_of (p i) (q i); column = sym x i; row = sym y i }

  basis-same : inside g column row ≡ true → basis_at g base column row ≡ basis
  unfolding basis_at fed_at detail_at quadrant_detail detail_by address_read block_read
  basis-same e =
      let o = origin-same e in
      let h = falls-first g.horizontal column accepted.horizontal (both e).0 in
      let v = falls-first g.vertical row accepted.vertical (both e).1 in
      let k = falls-next g.horizontal column accepted.horizontal (both e).0 in
      let l = falls-next g.vertical row accepted.vertical (both e).1 in
      λ i. record {
        origin = o i;
        detail = basis.detail;
        first = count_same _ _ (sym h) (sym v) i;
        right = count_same _ _ k (sym v) i;
        below = count_same _ _ (sym h) l i;
        diagonal = count_same _ _ k l i;
      }

  answer-same : inside g column row ≡ true → answer_of g base column row ≡ pick (mostly_intra set) (Intra basis) (Inherited basis (chosen made))
  unfolding answer_of intra_set address_read set_by
  answer-same e =
      yes _ _ e ∙ (λ i. pick (mostly_intra set) (Intra (basis-same e i)) (Inherited (basis-same e i) (chosen (motions-same i))))

  pub made_by_lem : inside g column row ≡ true → made_of g base column row ≡ made_by (fixed_of g) hor ver base
  unfolding made_of made_by answer_by written_by sort_by sort_inside written_inside inherited_inside
  made_by_lem e =
      let p = answer-same e in
      let q = motions-same in
      let sort = yes {t = hor.inside && ver.inside} (pick (mostly_intra set) SortIntra SortInherited) SortOutside refl in
      let written = yes {t = hor.inside && ver.inside} (pick (mostly_intra set) (without_motion 0 (pos basis.detail)) (laid_out (divided_by (chosen made) (motion_at made) (pos basis.detail)))) (without_motion 5 (pos 0)) refl in
      (λ i. record { answer = p i; written = written_for (p i) (q i) })
      ∙ ((λ i. record { answer = inside-answer (mostly_intra set) basis made i; written = inside-written (mostly_intra set) basis made i })
      ∙ (λ i. record { answer = answer_for (sym sort i) basis made; written = sym written i }))

-- in or out of the window
module _ (g : Axes) (accepted : AcceptedAxes g) (column row : ℕ) (base : List ℤ) where
  abbrev across : AxisRead
  across = read_of g.horizontal column

  abbrev down : AxisRead
  down = read_of g.vertical row

  abbrev nothing : Made
  nothing = record { answer = Outside; written = written_for Outside [] }

  out-made : (h v : AxisRead) → (h.inside && v.inside) ≡ false → nothing ≡ made_by (fixed_of g) h v base
  unfolding made_by answer_by sort_by written_by written_for
  out-made h v e =
      let sort = no (sort_inside (fixed_of g) h.reads v.reads base) SortOutside e in
      let written = no (written_inside (fixed_of g) h.reads v.reads base) (without_motion 5 (pos 0)) e in
      λ i. record { answer = answer_for (sym sort i) (basis_by (fixed_of g) h v base) (motions_inside (fixed_of g) h.reads v.reads base); written = sym written i }

  by-window : (a b : Bool) → inside_axis g.horizontal (sample_of column) ≡ a → inside_axis g.vertical (sample_of row) ≡ b → made_of g base column row ≡ made_by (fixed_of g) across down base
  unfolding read_of
  by-window true true p q =
      let x : across ≡ hor g accepted column row base = yes _ _ p in
      let y : down ≡ ver g accepted column row base = yes _ _ q in
      made_by_lem g accepted column row base (and_intro p q) ∙ sym (λ i. made_by (fixed_of g) (x i) (y i) base)
  by-window true false p q =
      let y : down ≡ nowhere = no _ _ q in
      made-outside g base column row (rw (p, q)) ∙ (out-made across nowhere (and-false across.inside) ∙ sym (λ i. made_by (fixed_of g) across (y i) base))
  by-window false b p q =
      let x : across ≡ nowhere = no _ _ p in
      made-outside g base column row (rw p) ∙ (out-made nowhere down refl ∙ sym (λ i. made_by (fixed_of g) (x i) down base))

  pub placed_by : made_of g base column row ≡ made_by (fixed_of g) across down base
  placed_by = by-window (inside_axis g.horizontal (sample_of column)) (inside_axis g.vertical (sample_of row)) refl refl

-- the sort is that of the answer
answer-sort : (s : Sort) (b : Basis) (m : List (List Motion)) → s ≡ sort_of (answer_for s b m)
answer-sort SortInherited b m = refl
answer-sort SortIntra b m = refl
answer-sort SortOutside b m = refl

pub sort-is : (f : Fixed) (h v : AxisRead) (base : List ℤ) → sort_by f h v base ≡ sort_of (made_by f h v base).answer
unfolding made_by answer_by
sort-is f h v base = answer-sort (sort_by f h v base) (basis_by f h v base) (motions_inside f h.reads v.reads base)
