-- The split by tests on a few motions: what the code computes. proofs/Fewest shows that it is the one that step 5 chooses.
use mathlib.Core.Bool.{Bool, true, false, ◌&&◌}
use mathlib.Core.List.{List, []}
use lib.ListN.{get_or}
use Rattle.definitions.specs.declared.Motion.{Motion}
use Rattle.definitions.specs.declared.SubSplit.{SubSplit}
use Rattle.definitions.specs.declared.SubSplit.TheVariants.{S8x8, S8x4, S4x8, S4x4}
use Rattle.definitions.specs.declared.SubSplits.{SubSplits}
use Rattle.definitions.specs.declared.Split.{Split}
use Rattle.definitions.specs.declared.Split.TheVariants.{S16x16, S16x8, S8x16, S8x8 as Quarters}
use Rattle.definitions.specs.Basics.{pick}
use Rattle.definitions.specs.Splits.{same_motion}
use Rattle.definitions.specs.Inheriting.{zero_motion, at}

-- A square of four in raster order, a b above c d, whose rows, and whose columns, have one motion each.
abbrev pub cut : Bool → Bool → SubSplit
cut true true = S8x8
cut true false = S8x4
cut false true = S4x8
cut false false = S4x4

unfoldable pub same_pairs : Motion → Motion → Motion → Motion → Bool
same_pairs a b c d = same_motion a b && same_motion c d

unfoldable pub shape_of : Motion → Motion → Motion → Motion → SubSplit
shape_of a b c d = cut (same_pairs a b c d) (same_pairs a c b d)

-- each quadrant by itself
unfoldable pub quadrant_shape : List Motion → SubSplit
quadrant_shape q = shape_of (get_or q 0 zero_motion) (get_or q 1 zero_motion) (get_or q 2 zero_motion) (get_or q 3 zero_motion)

unfoldable pub shapes_of : List (List Motion) → SubSplits
shapes_of m = record { a = quadrant_shape (get_or m 0 []); b = quadrant_shape (get_or m 1 []); c = quadrant_shape (get_or m 2 []); d = quadrant_shape (get_or m 3 []) }

abbrev pub is_whole : SubSplit → Bool
is_whole S8x8 = true
is_whole S8x4 = false
is_whole S4x8 = false
is_whole S4x4 = false

unfoldable pub all_whole : SubSplits → Bool
all_whole t = is_whole t.a && (is_whole t.b && (is_whole t.c && is_whole t.d))

-- Four quadrants of one motion each are a square of four motions again.
abbrev pub joined : SubSplit → SubSplits → Split
joined S8x8 t = S16x16
joined S8x4 t = S16x8
joined S4x8 t = S8x16
joined S4x4 t = Quarters t

unfoldable pub split_of : List (List Motion) → Split
split_of m =
    pick (all_whole (shapes_of m)) (joined (shape_of (at m 0 0) (at m 1 0) (at m 2 0) (at m 3 0)) (shapes_of m)) (Quarters (shapes_of m))
