-- The parts of "Well formed" that the search for the first fault goes by, and that no definition of the crate records says.
use Rattle.std.specs.Prelude.{ℕ, Bool, not, ◌&&◌, ◌||◌, List, ℤ, pos}
use Rattle.definitions.specs.Basics.{pick, all_below, eq_z}
use Rattle.definitions.specs.Blocks.{raster_of}
use Rattle.definitions.specs.Record.{motion_of, reference_of, vector_x_of, vector_y_of, used, rule1, rule2, rule3, rule4}
use Rattle.definitions.specs.Splits.{same_motion}
use Rattle.records.specs.Checking.{first_block_of}

-- the first of rules 1 to 4 that is broken, or 0
unfoldable pub head_broken : List ℤ → ℕ
head_broken r = pick (not (rule1 r)) 1 (pick (not (rule2 r)) 2 (pick (not (rule3 r)) 3 (pick (not (rule4 r)) 4 0)))

-- rule 5 of a quadrant's blocks in one list: its vector words are 0 where the reference is −1
abbrev pub unused_zero : List ℤ → ℕ → ℕ → Bool
unused_zero r q l = used (reference_of r q l) || all_below 4 (λ k. eq_z (vector_x_of r (raster_of q k) l) (pos 0) && eq_z (vector_y_of r (raster_of q k) l) (pos 0))

-- rule 6 of the blocks of a quadrant: they have the motions of their pieces' first blocks
abbrev pub pieces_right : List ℤ → ℕ → Bool
pieces_right r q = all_below 4 (λ k. same_motion (motion_of r (raster_of q k)) (motion_of r (first_block_of r (raster_of q k))))
