-- Motion, and the splits of a macroblock with their pieces ("A motion record", and step 5 of "Inheriting", of document 01).
-- Blocks are 0 to 15 in raster order, four to a row; sizes are width by height.
use Rattle.std.specs.Prelude.{ℕ, ◌+◌, ◌<◌, ◌≡◌, Bool, true, cond, ◌&&◌, List, [], ◌∷◌, ◌++◌, map, eqb, ltb, length}
use Rattle.definitions.specs.declared.Prediction.{Prediction}
use Rattle.definitions.specs.declared.Motion.{Motion}
use Rattle.definitions.specs.declared.SubSplit.{SubSplit}
use Rattle.definitions.specs.declared.SubSplit.TheVariants.{S8x8, S8x4, S4x8, S4x4}
use Rattle.definitions.specs.declared.Split.{Split}
use Rattle.definitions.specs.declared.Split.TheVariants.{S16x16, S16x8, S8x16, S8x8 as Quarters}
use Rattle.definitions.specs.Basics.{pick, eq_z, all_of, for_each}

-- Motion is both references and both vectors: two motions are the same
unfoldable pub same_prediction : Prediction → Prediction → Bool
same_prediction p q = eq_z p.reference q.reference && (eq_z p.x q.x && eq_z p.y q.y)

unfoldable pub same_motion : Motion → Motion → Bool
same_motion m n = same_prediction m.list0 n.list0 && same_prediction m.list1 n.list1

-- A piece is a partition, or in an 8×8 split a sub-partition. The sub-partitions of the quadrant whose first block is i
abbrev pub sub_pieces : ℕ → SubSplit → List (List ℕ)
sub_pieces i S8x8 = (i ∷ (i + 1) ∷ (i + 4) ∷ (i + 5) ∷ []) ∷ []
sub_pieces i S8x4 = (i ∷ (i + 1) ∷ []) ∷ ((i + 4) ∷ (i + 5) ∷ []) ∷ []
sub_pieces i S4x8 = (i ∷ (i + 4) ∷ []) ∷ ((i + 1) ∷ (i + 5) ∷ []) ∷ []
sub_pieces i S4x4 = (i ∷ []) ∷ ((i + 1) ∷ []) ∷ ((i + 4) ∷ []) ∷ ((i + 5) ∷ []) ∷ []

abbrev pub pieces : Split → List (List ℕ)
pieces S16x16 = (0 ∷ 1 ∷ 2 ∷ 3 ∷ 4 ∷ 5 ∷ 6 ∷ 7 ∷ 8 ∷ 9 ∷ 10 ∷ 11 ∷ 12 ∷ 13 ∷ 14 ∷ 15 ∷ []) ∷ []
pieces S16x8 = (0 ∷ 1 ∷ 2 ∷ 3 ∷ 4 ∷ 5 ∷ 6 ∷ 7 ∷ []) ∷ (8 ∷ 9 ∷ 10 ∷ 11 ∷ 12 ∷ 13 ∷ 14 ∷ 15 ∷ []) ∷ []
pieces S8x16 = (0 ∷ 1 ∷ 4 ∷ 5 ∷ 8 ∷ 9 ∷ 12 ∷ 13 ∷ []) ∷ (2 ∷ 3 ∷ 6 ∷ 7 ∷ 10 ∷ 11 ∷ 14 ∷ 15 ∷ []) ∷ []
pieces (Quarters t) = sub_pieces 0 t.a ++ (sub_pieces 2 t.b ++ (sub_pieces 8 t.c ++ sub_pieces 10 t.d))

-- Pieces cover the sixteen blocks once each: each of 0..15 stands once in them, and they hold sixteen, so no other.
abbrev pub blocks_of : List (List ℕ) → List ℕ
blocks_of ps = for_each ps (λ p. p)

abbrev pub times : ℕ → List ℕ → ℕ
times i [] = 0
times i (j ∷ js) = cond (eqb i j) 1 0 + times i js

pub record Covers (ps : List (List ℕ)) : Type 0 where
  pub once : (i : ℕ) → i < 16 → times i (blocks_of ps) ≡ 1
  pub sixteen : length (blocks_of ps) ≡ 16

-- One motion in each piece: each block of a piece has the motion of its first.
unfoldable pub alike : (ℕ → Motion) → List ℕ → Bool
alike m [] = true
alike m (i ∷ is) = all_of (λ j. same_motion (m j) (m i)) is

unfoldable pub one_each : (ℕ → Motion) → Split → Bool
one_each m s = all_of (alike m) (pieces s)

-- A split's number of pieces: 1 for 16×16, 2 for 16×8 or 8×16, and for 8×8 the sum over the quadrants of 1, 2, 2 or 4
abbrev pub sub_count : SubSplit → ℕ
sub_count S8x8 = 1
sub_count S8x4 = 2
sub_count S4x8 = 2
sub_count S4x4 = 4

abbrev pub count : Split → ℕ
count S16x16 = 1
count S16x8 = 2
count S8x16 = 2
count (Quarters t) = sub_count t.a + sub_count t.b + sub_count t.c + sub_count t.d

-- Permitted: 16×16, 16×8, 8×16, and 8×8 with any sub-type per quadrant, 259 in all.
abbrev pub sub_splits : List SubSplit
sub_splits = S8x8 ∷ S8x4 ∷ S4x8 ∷ S4x4 ∷ []

abbrev pub quarterings : List Split
quarterings =
    for_each sub_splits (λ a. for_each sub_splits (λ b. for_each sub_splits (λ c. map (λ d. Quarters (record { a = a; b = b; c = c; d = d })) sub_splits)))

abbrev pub splits : List Split
splits = S16x16 ∷ S16x8 ∷ S8x16 ∷ quarterings

-- The fewest pieces with one motion in each, of a list of splits. Sixteen pieces of one block each always serve.
abbrev pub sixteen_pieces : Split
sixteen_pieces = Quarters (record { a = S4x4; b = S4x4; c = S4x4; d = S4x4 })

abbrev pub fewer : Split → Split → Split
fewer s t = pick (ltb (count t) (count s)) t s

unfoldable pub fewest_in : List Split → (ℕ → Motion) → Split
fewest_in [] m = sixteen_pieces
fewest_in (s ∷ ss) m = pick (one_each m s) (fewer s (fewest_in ss m)) (fewest_in ss m)
