-- The sub-split that is chosen of four motions, by their rows and columns. Assumes nothing.
use mathlib.Core.Path.{◌≡◌, refl, sym, ◌∙◌}
use mathlib.Core.Bool.{Bool, true, false, ◌&&◌}
use mathlib.Core.List.{List}
use lib.ListN.{get_or}
use Rattle.definitions.specs.declared.Motion.{Motion}
use Rattle.definitions.specs.declared.SubSplit.{SubSplit}
use Rattle.definitions.specs.declared.SubSplit.TheVariants.{S8x8, S8x4, S4x8, S4x4}
use Rattle.definitions.specs.Basics.{all_of, pick}
use Rattle.definitions.specs.Inheriting.{zero_motion}
use Rattle.definitions.specs.Splits.{alike, same_motion}
use Rattle.definitions.proofs.Choices.{and_intro, both_true, both_ways}
use Rattle.definitions.proofs.Motions.{motion-same, motion-true}
use Rattle.definitions.proofs.Shapes.{cut, quadrant_shape, same_pairs, shape_of}
use Rattle.split.specs.Quadrant.{sub_chosen, sub_fewer, sub_fewest_in, sub_one_each}

-- ---- one motion in each piece of a square, a b above c d
same-turned : (m n : Motion) → same_motion m n ≡ same_motion n m
same-turned m n =
    both_ways (same_motion m n) (same_motion n m)
    (λ e. motion-same n m (sym (motion-true m n e)))
    (λ e. motion-same m n (sym (motion-true n m e)))

two-pieces : (p q : Bool) → ((p && true) && ((q && true) && true)) ≡ (p && q)
two-pieces true true = refl
two-pieces true false = refl
two-pieces false q = refl

in_two : (a b c d : Motion) → ((same_motion b a && true) && ((same_motion d c && true) && true)) ≡ same_pairs a b c d
unfolding same_pairs
in_two a b c d =
    let p = same-turned b a in
    let q = same-turned d c in
    two-pieces (same_motion b a) (same_motion d c) ∙ (λ i. p i && q i)

in_one : (a b c d : Motion) → ((same_motion b a && (same_motion c a && (same_motion d a && true))) && true) ≡ (same_pairs a b c d && same_pairs a c b d)
unfolding same_pairs
in_one a b c d =
    both_ways ((same_motion b a && (same_motion c a && (same_motion d a && true))) && true) ((same_motion a b && same_motion c d) && (same_motion a c && same_motion b d))
    (λ e. let x = both_true (same_motion b a) (same_motion c a && (same_motion d a && true)) (both_true (same_motion b a && (same_motion c a && (same_motion d a && true))) true e).0 in
    let y = both_true (same_motion c a) (same_motion d a && true) x.1 in
    let ab : a ≡ b = sym (motion-true b a x.0) in
    let ac : a ≡ c = sym (motion-true c a y.0) in
    let ad : a ≡ d = sym (motion-true d a (both_true (same_motion d a) true y.1).0) in
    and_intro (and_intro (motion-same a b ab) (motion-same c d (sym ac ∙ ad))) (and_intro (motion-same a c ac) (motion-same b d (sym ab ∙ ad))))
    (λ e. let x = both_true (same_motion a b && same_motion c d) (same_motion a c && same_motion b d) e in
    let rows = both_true (same_motion a b) (same_motion c d) x.0 in
    let columns = both_true (same_motion a c) (same_motion b d) x.1 in
    let ab : a ≡ b = motion-true a b rows.0 in
    let ac : a ≡ c = motion-true a c columns.0 in
    let cd : c ≡ d = motion-true c d rows.1 in
    and_intro (and_intro (motion-same b a (sym ab)) (and_intro (motion-same c a (sym ac)) (and_intro (motion-same d a (sym (ac ∙ cd))) refl))) refl)

-- ---- the fewest pieces, by the tests of 8×8, 8×4 and 4×8
abbrev fewest_by : Bool → Bool → Bool → SubSplit
fewest_by whole rows columns =
    pick whole (sub_fewer S8x8 (pick rows (sub_fewer S8x4 (pick columns (sub_fewer S4x8 S4x4) S4x4)) (pick columns (sub_fewer S4x8 S4x4) S4x4)))
    (pick rows (sub_fewer S8x4 (pick columns (sub_fewer S4x8 S4x4) S4x4)) (pick columns (sub_fewer S4x8 S4x4) S4x4))

by-cut : (rows columns : Bool) → fewest_by (rows && columns) rows columns ≡ cut rows columns
unfolding pick
by-cut true true = refl
by-cut true false = refl
by-cut false true = refl
by-cut false false = refl

by_tests : (m : List Motion) → sub_chosen m ≡ fewest_by (sub_one_each m S8x8) (sub_one_each m S8x4) (sub_one_each m S4x8)
unfolding sub_fewest_in sub_one_each alike all_of pick
by_tests m = refl

pub sub-chosen-is : (m : List Motion) → sub_chosen m ≡ quadrant_shape m
unfolding quadrant_shape shape_of sub_one_each alike all_of
sub-chosen-is m =
    let a = get_or m 0 zero_motion in
    let b = get_or m 1 zero_motion in
    let c = get_or m 2 zero_motion in
    let d = get_or m 3 zero_motion in
    let whole = in_one a b c d in
    let rows = in_two a b c d in
    let columns = in_two a c b d in
    by_tests m ∙ ((λ i. fewest_by (whole i) (rows i) (columns i)) ∙ by-cut (same_pairs a b c d) (same_pairs a c b d))
