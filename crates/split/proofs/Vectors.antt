-- Two blocks have the same motion where they have the same references and vectors, or, with one reference in each list, the same vectors; and a quadrant's sub-type, and the
-- type of four, by rows and columns. Assumes nothing.
use Prim.Native.Nat.{ℕ, ◌+◌, ◌*◌, ◌-◌, ◌≤◌, ◌<◌}
use mathlib.Core.Path.{◌≡◌, refl, sym, ap, ◌∙◌}
use mathlib.Core.Bool.{Bool, true, false, ◌&&◌, and-false}
use mathlib.Core.List.{List, [], ◌∷◌}
use native.Mathlib.Omega.{arith}
use lib.ListN.{get_or}
use lib.IntN.{ℤ}
use mir.Val.{bool_byte}
use Rattle.definitions.specs.declared.Motion.{Motion}
use Rattle.definitions.specs.Basics.{eq_z}
use Rattle.definitions.specs.Record.{sub_type_number}
use Rattle.definitions.specs.Splits.{same_motion, same_prediction}
use Rattle.std.specs.Ordering.{int_eq}
use Rattle.std.proofs.lemmas.Bool.Decides.{Decides-int_eq, same_from_decides}
use Rattle.definitions.proofs.Choices.{eq_z-refl, eq_z-true}
use Rattle.definitions.proofs.Shapes.{cut, quadrant_shape, same_pairs, shape_of}
use Rattle.motion.specs.declared.BlockMotion.{BlockMotion}
use Rattle.motion.specs.ByValue.{OneReference, motion_in, motions_in, same_vectors_in, zero_block}
use Rattle.split.specs.Quadrant.{sub_chosen}
use Rattle.split.specs.Types.{type_among}
use Rattle.split.proofs.Chosen.{sub-chosen-is}

equal : (a b c : ℤ) → a ≡ c → b ≡ c → eq_z a b ≡ true
equal a b c e f = ap (eq_z a) (f ∙ sym e) ∙ eq_z-refl a

number_is : (rows columns : Bool) → 3 - 2 * bool_byte rows - bool_byte columns ≡ sub_type_number (cut rows columns)
number_is true true = refl
number_is true false = refl
number_is false true = refl
number_is false false = refl

-- none of the differences is below 0
pub number_fits : (rows columns : Bool) → (2 * bool_byte rows ≤ 2) × (bool_byte columns ≤ 3 - 2 * bool_byte rows)
number_fits true true = (omega arith, omega arith)
number_fits true false = (omega arith, omega arith)
number_fits false true = (omega arith, omega arith)
number_fits false false = (omega arith, omega arith)

module _ (m : List BlockMotion) (one : OneReference m) where
  same-motion : (j k : ℕ) → j < 4 → k < 4 → same_motion (motion_in (get_or m j zero_block)) (motion_in (get_or m k zero_block)) ≡ same_vectors_in (get_or m j zero_block) (get_or m k zero_block)
  unfolding same_motion same_prediction same_vectors_in
  same-motion j k h l = rw (equal _ _ _ (one j h).0 (one k l).0, equal _ _ _ (one j h).1 (one k l).1)

  pub sub-type-is : (a b c d : Bool) → a ≡ same_vectors_in (get_or m 0 zero_block) (get_or m 1 zero_block) → b ≡ same_vectors_in (get_or m 2 zero_block) (get_or m 3 zero_block)
      → c ≡ same_vectors_in (get_or m 0 zero_block) (get_or m 2 zero_block) → d ≡ same_vectors_in (get_or m 1 zero_block) (get_or m 3 zero_block)
      → (3 - 2 * bool_byte (a && b) - bool_byte (c && d) ≡ sub_type_number (sub_chosen (motions_in m))) × (3 - 2 * bool_byte (a && b) - bool_byte (c && d) ≤ 3)
  unfolding quadrant_shape shape_of same_pairs
  sub-type-is a b c d ea eb ec ed =
      let ra = ea ∙ sym (same-motion 0 1 (omega arith) (omega arith)) in
      let rb = eb ∙ sym (same-motion 2 3 (omega arith) (omega arith)) in
      let ca = ec ∙ sym (same-motion 0 2 (omega arith) (omega arith)) in
      let cb = ed ∙ sym (same-motion 1 3 (omega arith) (omega arith)) in
      (number_is (a && b) (c && d) ∙ ((λ i. sub_type_number (cut (ra i && rb i) (ca i && cb i))) ∙ ap sub_type_number (sym (sub-chosen-is (motions_in m)))), omega arith)

-- ---- the type
-- by fields in turn, as `==` compares them, or list by list
by-lists : (a b c d e f : Bool) → (a && (b && (c && (d && (e && f))))) ≡ ((a && (c && d)) && (b && (e && f)))
by-lists false b c d e f = refl
by-lists true b false d e f = and-false b
by-lists true b true false e f = and-false b
by-lists true b true true e f = refl

int-same : (x y : ℤ) → int_eq x y ≡ eq_z x y
int-same x y = same_from_decides (int_eq x y) (eq_z x y) (Decides-int_eq x y) (eq_z-true x y, λ e. equal x y y e refl)

pub same_both : (p q : BlockMotion)
    → (int_eq p.r0 q.r0 && (int_eq p.r1 q.r1 && (int_eq p.x0 q.x0 && (int_eq p.y0 q.y0 && (int_eq p.x1 q.x1 && int_eq p.y1 q.y1))))) ≡ same_motion (motion_in p) (motion_in q)
unfolding same_motion same_prediction
same_both p q =
    rw (int-same p.r0 q.r0, int-same p.r1 q.r1, int-same p.x0 q.x0, int-same p.y0 q.y0, int-same p.x1 q.x1, int-same p.y1 q.y1)
    (by-lists (eq_z p.r0 q.r0) (eq_z p.r1 q.r1) (eq_z p.x0 q.x0) (eq_z p.y0 q.y0) (eq_z p.x1 q.x1) (eq_z p.y1 q.y1))

pub type-is : (k l m n : Motion) (a b c d : Bool) → a ≡ same_motion k l → b ≡ same_motion m n → c ≡ same_motion k m → d ≡ same_motion l n
    → (4 - 2 * bool_byte (a && b) - bool_byte (c && d) ≡ type_among (k ∷ l ∷ m ∷ n ∷ [])) × (4 - 2 * bool_byte (a && b) - bool_byte (c && d) ≤ 4)
unfolding type_among quadrant_shape shape_of same_pairs
type-is k l m n a b c d ea eb ec ed =
    let one : 4 - 2 * bool_byte (a && b) - bool_byte (c && d) ≡ 3 - 2 * bool_byte (a && b) - bool_byte (c && d) + 1 = omega (arith, (number_fits (a && b) (c && d)).0, (number_fits (a && b) (c && d)).1) in
    let shape = sub-chosen-is (k ∷ l ∷ m ∷ n ∷ []) in (
      one ∙ (ap (λ (x : ℕ). x + 1) (number_is (a && b) (c && d))
          ∙ ((λ i. sub_type_number (cut (ea i && eb i) (ec i && ed i)) + 1) ∙ (λ i. sub_type_number (sym shape i) + 1))),
      omega arith,
    )
