-- The parts of "Well formed" that the inner functions of the checks answer for, of both widths, and the addresses that a check runs over.
use Rattle.std.specs.Prelude.{ℕ, ◌+◌, ◌*◌, ◌-◌, ◌/◌, ◌%◌, Bool, ◌&&◌, ◌||◌, List, [], ◌∷◌, eqb, ℤ, get_or}
use Rattle.definitions.specs.declared.SubSplit.{SubSplit}
use Rattle.definitions.specs.declared.SubSplit.TheVariants.{S8x8, S8x4, S4x8, S4x4}
use Rattle.definitions.specs.declared.SubSplits.{SubSplits}
use Rattle.definitions.specs.declared.Split.{Split}
use Rattle.definitions.specs.declared.Split.TheVariants.{S16x16, S16x8, S8x16, S8x8 as Quarters}
use Rattle.definitions.specs.Replies.{Verdict, Accepted}
use Rattle.std.specs.Prelude.{Err as Refused}
use Rattle.definitions.specs.Basics.{pick, eq_z, between, all_below, up_to}
use Rattle.definitions.specs.Record.{word_of, reference_of, vector_x_of, vector_y_of, is_intra, used, split_said, vector_word}
use Rattle.definitions.specs.Blocks.{quadrant_of, in_quadrant, raster_of}

-- count words from the first on are in low..high
unfoldable pub all_within : List ℤ → ℕ → ℕ → ℤ → ℤ → Bool
all_within r first count low high = all_below count (λ k. between low high (word_of r (first + k)))

-- rule 4 of a quadrant: it has a used list
abbrev pub quadrant_used : List ℤ → ℕ → Bool
quadrant_used r q = used (reference_of r q 0) || used (reference_of r q 1)

-- rule 5 of a block in one list, and of the blocks of a quadrant
abbrev pub list_right : ℕ → List ℤ → ℕ → ℕ → Bool
list_right limit r b l =
    vector_word limit (used (reference_of r (quadrant_of b) l)) (vector_x_of r b l) && vector_word limit (used (reference_of r (quadrant_of b) l)) (vector_y_of r b l)

unfoldable pub vectors_right : ℕ → List ℤ → ℕ → Bool
vectors_right limit r q = all_below 4 (λ k. all_below 2 (list_right limit r (raster_of q k)))

-- the vector words of a block, from word w on, pass: those of list 0 a test f, those of list 1 a test g
abbrev pub block_within : (ℤ → Bool) → (ℤ → Bool) → List ℤ → ℕ → Bool
block_within f g r w = (f (word_of r w) && f (word_of r (w + 1))) && (g (word_of r (w + 2)) && g (word_of r (w + 3)))

-- rule 6: the first block of the piece that block b stands in
abbrev pub sub_first_block : SubSplit → ℕ → ℕ
sub_first_block S8x8 b = raster_of (quadrant_of b) 0
sub_first_block S8x4 b = raster_of (quadrant_of b) (in_quadrant b / 2 * 2)
sub_first_block S4x8 b = raster_of (quadrant_of b) (in_quadrant b % 2)
sub_first_block S4x4 b = b

abbrev pub sub_split_at : SubSplits → ℕ → SubSplit
sub_split_at t q = get_or (t.a ∷ t.b ∷ t.c ∷ t.d ∷ []) q S8x8

abbrev pub first_block_in : Split → ℕ → ℕ
first_block_in S16x16 b = 0
first_block_in S16x8 b = b / 8 * 8
first_block_in S8x16 b = b % 4 / 2 * 2
first_block_in (Quarters t) b = sub_first_block (sub_split_at t (quadrant_of b)) b

-- of an intra record, which has no pieces, the block itself
unfoldable pub first_block_of : List ℤ → ℕ → ℕ
first_block_of r b = pick (is_intra r) b (first_block_in (split_said r) b)

-- two quadrants have the same references, two blocks the same vectors
unfoldable pub same_references : List ℤ → ℕ → ℕ → Bool
same_references r q e = all_below 2 (λ l. eq_z (reference_of r q l) (reference_of r e l))

unfoldable pub same_vectors : List ℤ → ℕ → ℕ → Bool
same_vectors r b d = all_below 2 (λ l. eq_z (vector_x_of r b l) (vector_x_of r d l) && eq_z (vector_y_of r b l) (vector_y_of r d l))

-- what a search says that ended at an address with a broken rule, or with none (0)
unfoldable pub found_at : ℕ → ℕ → Verdict
found_at a rule = pick (eqb rule 0) Accepted (Refused (record { number = 8; place = a; rule = rule }))

-- from .. to−1
abbrev pub addresses : ℕ → ℕ → List ℕ
addresses from to = up_to (to - from) (λ k. from + k)
