-- The cases of what is made of a macroblock. Assumes nothing.
use Prim.Native.Nat.{ℕ, ◌/◌, ◌%◌, ◌<◌, ◌≤◌}
use mathlib.Core.Path.{◌≡◌, refl, sym, ap, subst, ◌∙◌}
use mathlib.Core.Bool.{Bool, true, false, true≢false, ◌&&◌, ◌||◌}
use mathlib.Core.List.{List, []}
use native.Mathlib.Omega.{arith}
use lib.IntN.{ℤ, pos, nat_abs}
use lib.ListN.{get_or}
use Rattle.definitions.specs.declared.Motion.{Motion}
use Rattle.definitions.specs.declared.Answer.TheVariants.{Inherited as InheritedAnswer, Intra as IntraAnswer}
use Rattle.motion.specs.declared.BlockMotion.{BlockMotion}
use Rattle.gather.specs.declared.Corners.{Corners}
use Rattle.macroblock.specs.declared.AxisRead.{AxisRead}
use Rattle.macroblock.specs.declared.Fixed.{Fixed}
use Rattle.common.specs.declared.counts.Sort.{Sort}
use Rattle.common.specs.declared.counts.Sort.TheVariants.{Inherited, Intra, Outside}
use Rattle.definitions.specs.Basics.{between, four, pick}
use Rattle.definitions.specs.Blocks.{raster_of}
use Rattle.definitions.specs.Record.{all_one, detail_of, fits, laid_out, rule7, split_said}
use Rattle.definitions.specs.Inheriting.{at, chosen, mostly_intra, motion_at, resolved, zero_motion}
use Rattle.definitions.specs.Answer.{divided_by, unused_motion, without_motion}
use Rattle.definitions.proofs.Choices.{and_intro, both_false, four-at, no, pick-cases, yes}
use Rattle.definitions.proofs.Promises.{split-said}
use Rattle.definitions.proofs.Records.{laid-detail, raster-below}
use Rattle.definitions.proofs.Sameness.{set_same}
use Rattle.definitions.proofs.Sets.{set_below}
use Rattle.details.specs.Bits.{detail_by, quadrant_reads}
use borrow.Author.Tests.{le-leb}
use Rattle.definitions.proofs.Steps.{Both, resolved-keeps, resolved-settled}
use Rattle.definitions.proofs.Written.{zero-between}
use Rattle.motion.specs.ByValue.{AllWritable, Writable, motion_in, motions_in, quadrants_in, zero_block}
use Rattle.motion.specs.declared.Scales.{Scales}
use Rattle.motion.specs.Scales.{AcceptedScales, all_scaled}
use mir.Facts.{to_z_pos}
use mir.Syntax.{w8, w16}
use mir.Val.{Fits, to_z}
use Rattle.gather.specs.Reads.{Readable, ReadableAt, Rising, beside, corners_by, gathered_by, motion_by, motion_read, set_among}
use Rattle.gather.proofs.Sets.{set-corners}
use Rattle.macroblock.specs.Made.{Ready, answer_by, answer_for, answer_said, basis_by, basis_with, detail_inside, fixed_with, inherited_inside, motions_inside, resolved_inside, said_by, set_inside, sort_by, sort_inside, split_in, within, written_by, written_inside}
use Rattle.macroblock.proofs.Motions.{Kept, read_kept}
use Rattle.macroblock.proofs.Single.{all-or-none}

-- ---- what steps 1 to 3 leave can be written
module _ {limit : ℕ} (width : ℕ) (across down : List ℕ) (base : List ℤ) (readable : Readable limit width across down base) where
  abbrev gathered : List (List Motion)
  gathered = gathered_by width across down base

  gathered-kept : (q k : ℕ) → q < 4 → k < 4 → Both (Kept limit) (at gathered q k)
  unfolding gathered_by
  gathered-kept q k hq hk =
      let quadrant : ℕ → List Motion = λ j. four (λ i. motion_by width across down base (raster_of j i)) in
      let e = ap (λ (l : List Motion). get_or l k zero_motion) (four-at quadrant [] q hq) ∙ four-at (λ i. motion_by width across down base (raster_of q i)) zero_motion k hk in
      subst (Both (Kept limit)) (sym e) (read_kept width base _ _ (readable (raster_of q k) (raster-below q k hq hk)))

  kept : (set q k : ℕ) → q < 4 → k < 4 → Both (Kept limit) (at (resolved set gathered) q k)
  kept set = resolved-keeps (Kept limit) (record { range = record { x = zero-between limit; y = zero-between limit }; reference = refl }) set gathered gathered-kept

  pub writable : (set : ℕ) (m : List (List BlockMotion)) → quadrants_in m ≡ resolved set gathered → AllWritable limit m
  writable set m e q hq =
      let here : get_or (quadrants_in m) q [] ≡ motions_in (get_or m q []) = four-at (λ j. motions_in (get_or m j [])) [] q hq in
      let block : (k : ℕ) → k < 4 → get_or (get_or (quadrants_in m) q []) k zero_motion ≡ motion_in (get_or (get_or m q []) k zero_block) =
      λ k hk. ap (λ (l : List Motion). get_or l k zero_motion) here ∙ four-at (λ j. motion_in (get_or (get_or m q []) j zero_block)) zero_motion k hk in
      let all : (k : ℕ) → k < 4 → Both (Kept limit) (motion_in (get_or (get_or m q []) k zero_block)) =
      λ k hk. subst (Both (Kept limit)) (block k hk) (subst (λ (l : List (List Motion)). Both (Kept limit) (at l q k)) (sym e) (kept set q k hq hk)) in
      let settled = resolved-settled set gathered q hq in
      let same : (k : ℕ) → get_or (get_or (quadrants_in m) q []) k zero_motion ≡ get_or (get_or (resolved set gathered) q []) k zero_motion = λ k. ap (λ (l : List (List Motion)). get_or (get_or l q []) k zero_motion) e in
      record {
        blocks = λ k hk. record { referring = ((all k hk).0.reference, (all k hk).1.reference); vectors = ((all k hk).0.range, (all k hk).1.range) };
        one = λ k hk. (
          ap (λ (n : Motion). n.list0.reference) (sym (block k hk) ∙ same k) ∙ (settled.one0 k hk ∙ ap (λ (n : Motion). n.list0.reference) (sym (same 0) ∙ block 0 (omega arith))),
          ap (λ (n : Motion). n.list1.reference) (sym (block k hk) ∙ same k) ∙ (settled.one1 k hk ∙ ap (λ (n : Motion). n.list1.reference) (sym (same 0) ∙ block 0 (omega arith))),
        );
      }

-- ---- the detail
detail-low : (width : ℕ) (across down : List ℕ) (base : List ℤ) → detail_by width across down base < 16
unfolding detail_by
detail-low width across down base = set_below 4 (quadrant_reads width across down base)

-- as a word
pub detail-word : (n d : ℕ) → Fits w8 n → n ≡ d → to_z w16 n ≡ pos d
detail-word n d fits e = to_z_pos w16 {n = n} (omega (arith, fits.fits)) ∙ ap pos e

-- ---- inside
pub inherited-written : (f : Fixed) (across down : List ℕ) (base : List ℤ) {set : ℕ} → set ≡ set_inside f across down base → {m : List (List Motion)} → m ≡ resolved set (gathered_by f.width across down base)
    → laid_out (divided_by (chosen (all_scaled f.scales m)) (motion_at (all_scaled f.scales m)) (pos (detail_inside f across down base))) ≡ inherited_inside f across down base
unfolding inherited_inside motions_inside resolved_inside
inherited-written f across down base is e =
    let p = e ∙ ap (λ (s : ℕ). resolved s (gathered_by f.width across down base)) is in
    λ i. laid_out (divided_by (chosen (all_scaled f.scales (p i))) (motion_at (all_scaled f.scales (p i))) (pos (detail_inside f across down base)))

-- what is read there, with accepted scales
pub ready-with : {limit width : ℕ} {scales : Scales} {across down : List ℕ} {base : List ℤ} → AcceptedScales scales → Readable limit width across down base → width ≤ 256 → Rising across → Rising down
    → Ready limit (fixed_with width scales) across down base
ready-with s r w c d = record { scales = s; width = w; readable = r; columns = c; rows = d }

none_beside : {t u : Bool} (x : List ℕ) (i : ℕ) → t ≡ false → u ≡ false → beside x i t u ≡ false
none_beside x i p q = pick-cases (λ (b : Bool). b ≡ false) _ _ _ (λ t. p) (λ t. q)

module _ {limit : ℕ} {f : Fixed} {across down : List ℕ} {base : List ℤ} (ready : Ready limit f across down base) where
  -- what a function hands back and leaves in its words
  abbrev Gives : Sort → List ℤ → Type 0
  Gives s words = (s ≡ sort_inside f across down base) × (words ≡ written_inside f across down base)

  module _ {set : ℕ} (is : set ≡ set_inside f across down base) where
    pub made-intra : mostly_intra set ≡ true → {words : List ℤ} → words ≡ without_motion 0 (pos (detail_inside f across down base)) → Gives Intra words
    unfolding sort_inside written_inside
    made-intra t w = let m = ap mostly_intra (sym is) ∙ t in (sym (yes _ _ m), w ∙ sym (yes _ _ m))

    pub made-inherited : mostly_intra set ≡ false → {words : List ℤ} → words ≡ inherited_inside f across down base → Gives Inherited words
    unfolding sort_inside written_inside
    made-inherited t w = let m = ap mostly_intra (sym is) ∙ t in (sym (no _ _ m), w ∙ sym (no _ _ m))

  -- the set by the corners
  module _ {c : Corners} (corners : c ≡ corners_by f.width across down base) where
    pub set_is : {set : ℕ} → set ≡ set_among c across down → set ≡ set_inside f across down base
    set_is e = e ∙ (ap (λ (k : Corners). set_among k across down) corners ∙ set-corners f.width across down base ready.columns ready.rows)

    -- no corner is intra, and so no block
    pub no-corner : (((c.first || c.right) || c.below) || c.diagonal) ≡ false → 0 ≡ set_inside f across down base
    unfolding set_among pick
    no-corner e =
        let abc = both_false ((c.first || c.right) || c.below) c.diagonal e in
        let ab = both_false (c.first || c.right) c.below abc.0 in
        let a = both_false c.first c.right ab.0 in
        set_is (sym (set_same 16 _ (λ i. false) (λ i h. none_beside down (i / 4) (none_beside across (i % 4) a.0 a.1) (none_beside across (i % 4) ab.1 abc.1)) ∙ all-or-none false))

-- a block that is read can be written
pub read-writable : {limit : ℕ} (width : ℕ) (base : List ℤ) (x y : ℕ) (m : BlockMotion) → ReadableAt limit width base x y → motion_in m ≡ motion_read width base x y → Writable limit m
read-writable {limit} width base x y m r e =
    let k = subst (Both (Kept limit)) (sym e) (read_kept width base x y r) in
    record { referring = (k.0.reference, k.1.reference); vectors = (k.0.range, k.1.range) }

-- ---- in or out of the window
module _ (f : Fixed) (h v : AxisRead) (base : List ℤ) where
  abbrev GivesAny : Sort → List ℤ → Type 0
  GivesAny s words = (s ≡ sort_by f h v base) × (words ≡ written_by f h v base)

  pub placed-in : (h.inside && v.inside) ≡ true → {s : Sort} {words : List ℤ} → s ≡ sort_inside f h.reads v.reads base → words ≡ written_inside f h.reads v.reads base → GivesAny s words
  unfolding sort_by written_by
  placed-in e p q = (p ∙ sym (yes _ _ e), q ∙ sym (yes _ _ e))

  pub placed-out : (h.inside && v.inside) ≡ false → {words : List ℤ} → words ≡ without_motion 5 (pos 0) → GivesAny Outside words
  unfolding sort_by written_by
  placed-out e q = (sym (no _ _ e), q ∙ sym (no _ _ e))

-- ---- the answer, its detail, and where it inherits the split that its record says
module _ (f : Fixed) (h v : AxisRead) (base : List ℤ) where
  pub sort-inside : {s : Sort} → s ≡ sort_by f h v base → within s ≡ true → (h.inside && v.inside) ≡ true
  unfolding sort_by
  sort-inside {s} e p = by (h.inside && v.inside) refl
    where
      by : (t : Bool) → (h.inside && v.inside) ≡ t → t ≡ true
      by true q = refl
      by false q = absurd (true≢false (sym p ∙ ap within (e ∙ no _ _ q)))

  written-detail : (h.inside && v.inside) ≡ true → {words : List ℤ} → words ≡ written_by f h v base → detail_of words ≡ pos (detail_inside f h.reads v.reads base)
  unfolding written_by written_inside inherited_inside
  written-detail e w =
      let D = pos (detail_inside f h.reads v.reads base) in
      let m = motions_inside f h.reads v.reads base in
      ap detail_of (w ∙ yes _ _ e)
      ∙ pick-cases (λ (l : List ℤ). detail_of l ≡ D) (mostly_intra (set_inside f h.reads v.reads base)) (without_motion 0 D) (laid_out (divided_by (chosen m) (motion_at m) D))
      (λ t. laid-detail (all_one 0 unused_motion D)) (λ t. laid-detail (divided_by (chosen m) (motion_at m) D))

  -- inside or out, the record keeps rule 7, and inside it says the detail
  detail-kept : (words : List ℤ) (d : ℕ) → d < 16 → detail_of words ≡ pos d → rule7 words ≡ true
  unfolding rule7
  detail-kept words d low e = ap (between (pos 0) (pos 15)) e ∙ and_intro (le-leb 0 d (omega arith)) (le-leb d 15 (omega arith))

  pub keeps-detail : (words : List ℤ) → words ≡ written_by f h v base → rule7 words ≡ true
  unfolding written_by
  keeps-detail words w = by (h.inside && v.inside) refl
    where
      by : (t : Bool) → (h.inside && v.inside) ≡ t → rule7 words ≡ true
      by true e = detail-kept words (detail_inside f h.reads v.reads base) (detail-low f.width h.reads v.reads base) (written-detail e w)
      by false e = detail-kept words 0 (omega arith) (ap detail_of (w ∙ no _ _ e) ∙ laid-detail (all_one 5 unused_motion (pos 0)))

  pub says-detail : {s : Sort} → s ≡ sort_by f h v base → within s ≡ true → {words : List ℤ} → words ≡ written_by f h v base → nat_abs (detail_of words) ≡ detail_inside f h.reads v.reads base
  says-detail e p w = ap nat_abs (written-detail (sort-inside e p) w)

inherits : Sort → Bool
inherits Inherited = true
inherits Intra = false
inherits Outside = false

told : (t u : Bool) (a b c : List ℤ) → inherits (pick t (pick u Intra Inherited) Outside) ≡ true → pick t (pick u a b) c ≡ b
unfolding inherits pick
told true true a b c e = absurd (true≢false (sym e))
told true false a b c e = refl
told false u a b c e = absurd (true≢false (sym e))

module _ (f : Fixed) (h v : AxisRead) (base : List ℤ) where
  answered : {s : Sort} → s ≡ sort_by f h v base → answer_for s (basis_by f h v base) (motions_inside f h.reads v.reads base) ≡ answer_by f h v base
  unfolding answer_by
  answered e = ap (λ (s : Sort). answer_for s (basis_by f h v base) (motions_inside f h.reads v.reads base)) e

  split-is : Inherited ≡ sort_by f h v base → {words : List ℤ} → words ≡ written_by f h v base → split_said words ≡ chosen (motions_inside f h.reads v.reads base)
  unfolding inherits sort_by written_by sort_inside written_inside inherited_inside
  split-is e w =
      let M = motions_inside f h.reads v.reads base in
      ap split_said (w ∙ told (h.inside && v.inside) (mostly_intra (set_inside f h.reads v.reads base)) _ _ _ (ap inherits (sym e))) ∙ split-said (chosen M) (motion_at M) (pos (detail_inside f h.reads v.reads base))

  split-in : (r : List ℤ) → split_in (said_by r) ≡ split_said r
  unfolding split_said
  split-in r = refl

  -- the answer is the one that the written record says
  pub answer-said : (s : Sort) → s ≡ sort_by f h v base → {words : List ℤ} → words ≡ written_by f h v base → answer_said s h v (said_by words) ≡ answer_by f h v base
  answer-said Outside e w = answered e
  answer-said Intra e w = let d = says-detail f h v base e refl w in (λ i. IntraAnswer (basis_with h v (d i))) ∙ answered e
  answer-said Inherited e {words} w =
      let d = says-detail f h v base e refl w in
      let k = split-in words ∙ split-is e w in
      (λ i. InheritedAnswer (basis_with h v (d i)) (k i)) ∙ answered e
