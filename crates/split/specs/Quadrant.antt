-- Step 5 of "Inheriting" on four motions, 0 1 above 2 3: as Splits of the definitions has it for a macroblock.
use Rattle.std.specs.Prelude.{Bool, List, [], ◌∷◌, ltb, get_or}
use Rattle.definitions.specs.declared.Motion.{Motion}
use Rattle.definitions.specs.declared.SubSplit.{SubSplit}
use Rattle.definitions.specs.declared.SubSplit.TheVariants.{S4x4}
use Rattle.definitions.specs.Basics.{all_of, pick}
use Rattle.definitions.specs.Blocks.{in_quadrant}
use Rattle.definitions.specs.Inheriting.{zero_motion}
use Rattle.definitions.specs.Splits.{alike, sub_count, sub_pieces, sub_splits}

-- one motion in each sub-partition, of blocks that are numbered as those of quadrant 0
unfoldable pub sub_one_each : List Motion → SubSplit → Bool
sub_one_each m s = all_of (alike (λ i. get_or m (in_quadrant i) zero_motion)) (sub_pieces 0 s)

-- the fewest sub-partitions with one motion in each, of a list of sub-splits; four of one block each always serve
abbrev pub sub_fewer : SubSplit → SubSplit → SubSplit
sub_fewer s t = pick (ltb (sub_count t) (sub_count s)) t s

unfoldable pub sub_fewest_in : List SubSplit → List Motion → SubSplit
sub_fewest_in [] m = S4x4
sub_fewest_in (s ∷ ss) m = pick (sub_one_each m s) (sub_fewer s (sub_fewest_in ss m)) (sub_fewest_in ss m)

-- of 8×8, 8×4, 4×8 and 4×4
abbrev pub sub_chosen : List Motion → SubSplit
sub_chosen m = sub_fewest_in sub_splits m
