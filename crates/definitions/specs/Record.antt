-- "A motion record" of document 01, with the word that document 02's E7 adds: its layout, and when it is well formed.
use Rattle.std.specs.Prelude.{ℕ, ◌+◌, ◌*◌, ◌-◌, Bool, not, ◌&&◌, ◌||◌, List, [], ◌∷◌, ◌++◌, eqb, ℤ, pos, nat_abs, get_or, take, drop}
use Rattle.definitions.specs.declared.Prediction.{Prediction}
use Rattle.definitions.specs.declared.Motion.{Motion}
use Rattle.definitions.specs.declared.SubSplit.{SubSplit}
use Rattle.definitions.specs.declared.SubSplit.TheVariants.{S8x8, S8x4, S4x8, S4x4}
use Rattle.definitions.specs.declared.Split.{Split}
use Rattle.definitions.specs.declared.Split.TheVariants.{S16x16, S16x8, S8x16, S8x8 as Quarters}
use Rattle.definitions.specs.Basics.{pick, minus, eq_z, between, bit_set, all_below, up_to, for_each}
use Rattle.definitions.specs.Splits.{one_each}
use Rattle.definitions.specs.Blocks.{quadrant_of, raster_of}

-- 78 signed words (77 before E7), of 16 bits or, with document 02's E12, of 32
abbrev pub record_words : ℕ
record_words = 78

-- Vector words are −L..L − 1. L is a parameter of rule 5 and of all that cites it; its values for the two widths, records of 16-bit and (document 02, E12) of 32-bit words:
abbrev pub narrow : ℕ
narrow = 8192

abbrev pub wide : ℕ
wide = 131072

-- the record at an address of a list of records
unfoldable pub record_at : List ℤ → ℕ → List ℤ
record_at base a = take record_words (drop (record_words * a) base)

-- Reading a record. Word 0: type. Words 1 to 4: sub-type of quadrants 0 to 3. Words 5 + 2q + l: reference of quadrant q in list l.
-- Words 13 + 4b + 2l, and the next: horizontal and vertical vector of block b in list l. Word 77: detail.
abbrev pub word_of : List ℤ → ℕ → ℤ
word_of r w = get_or r w (pos 0)

abbrev pub type_of : List ℤ → ℤ
type_of r = word_of r 0

abbrev pub sub_type_of : List ℤ → ℕ → ℤ
sub_type_of r q = word_of r (1 + q)

abbrev pub reference_of : List ℤ → ℕ → ℕ → ℤ
reference_of r q l = word_of r (5 + 2 * q + l)

abbrev pub vector_x_of : List ℤ → ℕ → ℕ → ℤ
vector_x_of r b l = word_of r (13 + 4 * b + 2 * l)

abbrev pub vector_y_of : List ℤ → ℕ → ℕ → ℤ
vector_y_of r b l = word_of r (13 + 4 * b + 2 * l + 1)

abbrev pub detail_of : List ℤ → ℤ
detail_of r = word_of r 77

-- Bit q of the four low bits says that the base has luma coefficients in quadrant q (of a word that keeps rule 7: no other is read).
abbrev pub has_detail : List ℤ → ℕ → Bool
has_detail r q = bit_set (nat_abs (detail_of r)) q

-- type 0 is intra
abbrev pub is_intra : List ℤ → Bool
is_intra r = eq_z (type_of r) (pos 0)

-- a block's motion
abbrev pub prediction_of : List ℤ → ℕ → ℕ → Prediction
prediction_of r b l = record { reference = reference_of r (quadrant_of b) l; x = vector_x_of r b l; y = vector_y_of r b l }

unfoldable pub motion_of : List ℤ → ℕ → Motion
motion_of r b = record { list0 = prediction_of r b 0; list1 = prediction_of r b 1 }

-- a reference is used unless it is −1
abbrev pub used : ℤ → Bool
used reference = not (eq_z reference (minus 1))

-- The numbers of types and sub-types: 1 16×16, 2 16×8, 3 8×16, 4 8×8; 0 8×8, 1 8×4, 2 4×8, 3 4×4
abbrev pub type_number : Split → ℕ
type_number S16x16 = 1
type_number S16x8 = 2
type_number S8x16 = 3
type_number (Quarters t) = 4

abbrev pub sub_type_number : SubSplit → ℕ
sub_type_number S8x8 = 0
sub_type_number S8x4 = 1
sub_type_number S4x8 = 2
sub_type_number S4x4 = 3

-- the split that a type of 1 to 4 and sub-types of 0 to 3 say
abbrev pub sub_split_of : ℤ → SubSplit
sub_split_of t = pick (eq_z t (pos 0)) S8x8 (pick (eq_z t (pos 1)) S8x4 (pick (eq_z t (pos 2)) S4x8 S4x4))

unfoldable pub split_said : List ℤ → Split
split_said r =
    pick (eq_z (type_of r) (pos 1)) S16x16
    (pick (eq_z (type_of r) (pos 2)) S16x8
    (pick (eq_z (type_of r) (pos 3)) S8x16
    (Quarters (record { a = sub_split_of (sub_type_of r 0); b = sub_split_of (sub_type_of r 1); c = sub_split_of (sub_type_of r 2); d = sub_split_of (sub_type_of r 3) }))))

-- Well formed.
-- (1) type 0..4
unfoldable pub rule1 : List ℤ → Bool
rule1 r = between (pos 0) (pos 4) (type_of r)

-- (2) sub-types 0..3, all 0 unless type 4
unfoldable pub rule2 : List ℤ → Bool
rule2 r = all_below 4 (λ q. between (pos 0) (pos 3) (sub_type_of r q)) && (eq_z (type_of r) (pos 4) || all_below 4 (λ q. eq_z (sub_type_of r q) (pos 0)))

-- (3) references −1..31
unfoldable pub rule3 : List ℤ → Bool
rule3 r = all_below 4 (λ q. all_below 2 (λ l. between (minus 1) (pos 31) (reference_of r q l)))

-- (4) type 0 has only −1, any other type has a used list in each quadrant
unfoldable pub rule4 : List ℤ → Bool
rule4 r =
    pick (is_intra r) (all_below 4 (λ q. all_below 2 (λ l. not (used (reference_of r q l)))))
    (all_below 4 (λ q. used (reference_of r q 0) || used (reference_of r q 1)))

-- (5) vector words −8,192..8,191 (of wide records −131,072..131,071), and 0 where the reference is −1
-- a word is in −L..L − 1
abbrev pub fits : ℕ → ℤ → Bool
fits limit v = between (minus limit) (pos (limit - 1)) v

abbrev pub vector_word : ℕ → Bool → ℤ → Bool
vector_word limit is_used v = fits limit v && (is_used || eq_z v (pos 0))

unfoldable pub rule5 : ℕ → List ℤ → Bool
rule5 limit r =
    all_below 16 (λ b. all_below 2 (λ l.
    vector_word limit (used (reference_of r (quadrant_of b) l)) (vector_x_of r b l) && vector_word limit (used (reference_of r (quadrant_of b) l)) (vector_y_of r b l)))

-- (6) one partition or sub-partition has one motion. (An intra record has none.)
unfoldable pub rule6 : List ℤ → Bool
rule6 r = is_intra r || one_each (motion_of r) (split_said r)

-- (7) values 0..15 of word 77 (document 02, E7), tested last
unfoldable pub rule7 : List ℤ → Bool
rule7 r = between (pos 0) (pos 15) (detail_of r)

-- the first broken rule, or 0
unfoldable pub first_broken : ℕ → List ℤ → ℕ
first_broken limit r =
    pick (not (rule1 r)) 1 (pick (not (rule2 r)) 2 (pick (not (rule3 r)) 3 (pick (not (rule4 r)) 4 (pick (not (rule5 limit r)) 5 (pick (not (rule6 r)) 6
    (pick (not (rule7 r)) 7 0))))))

abbrev pub well_formed : ℕ → List ℤ → Bool
well_formed limit r = eqb (first_broken limit r) 0

-- Writing a record. What it says: its type, the sub-types of its quadrants, the motions of its blocks, and its detail.
pub record Contents : Type 0 where
  pub kind : ℕ
  pub sub : ℕ → ℕ
  pub motion : ℕ → Motion
  pub detail : ℤ

abbrev pub references_of : Motion → List ℤ
references_of m = m.list0.reference ∷ m.list1.reference ∷ []

abbrev pub vectors_of : Motion → List ℤ
vectors_of m = m.list0.x ∷ m.list0.y ∷ m.list1.x ∷ m.list1.y ∷ []

-- Its words: type, sub-types, the references of the quadrants (those of a quadrant's first block), the vectors of the blocks, detail
unfoldable pub laid_out : Contents → List ℤ
laid_out c =
    pos c.kind
    ∷ (up_to 4 (λ q. pos (c.sub q))
    ++ (for_each (up_to 4 (λ q. q)) (λ q. references_of (c.motion (raster_of q 0)))
    ++ (for_each (up_to 16 (λ b. b)) (λ b. vectors_of (c.motion b))
    ++ (c.detail ∷ []))))

-- one motion in all blocks, and no sub-types
abbrev pub all_one : ℕ → Motion → ℤ → Contents
all_one kind m detail = record { kind = kind; sub = λ q. 0; motion = λ b. m; detail = detail }
