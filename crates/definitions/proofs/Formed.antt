-- A well-formed record keeps each of the seven rules; and what rule 5 says of a block's vectors. Assumes nothing.
use Prim.Native.Nat.{ℕ, ◌<◌}
use mathlib.Core.Path.{◌≡◌, refl}
use mathlib.Core.Bool.{Bool, true, false, not}
use mathlib.Core.List.{List}
use native.Mathlib.Omega.{arith}
use lib.IntN.{ℤ}
use borrow.Author.Tests.{eqb-true}
use Rattle.definitions.specs.Basics.{pick}
use Rattle.definitions.specs.Record.{vector_x_of, vector_y_of, reference_of, used, vector_word, rule1, rule2, rule3, rule4, rule5, rule6, rule7, first_broken, well_formed}
use Rattle.definitions.specs.Blocks.{quadrant_of}
use Rattle.definitions.proofs.Choices.{both_true, below_true}

-- the seven rules of a record
pub record Rules (limit : ℕ) (r : List ℤ) : Type 0 where
  pub types : rule1 r ≡ true
  pub sub-types : rule2 r ≡ true
  pub references : rule3 r ≡ true
  pub lists : rule4 r ≡ true
  pub vectors : rule5 limit r ≡ true
  pub pieces : rule6 r ≡ true
  pub detail : rule7 r ≡ true

-- where the first broken rule is none, the first of them is kept, and the rest is none
kept : (rule : Bool) (n : ℕ) (rest : ℕ) → 0 < n → pick (not rule) n rest ≡ 0 → (rule ≡ true) × (rest ≡ 0)
unfolding pick
kept true n rest h e = (refl, e)
kept false n rest h e = absurd (omega arith)

pub rules-of : (limit : ℕ) (r : List ℤ) → well_formed limit r ≡ true → Rules limit r
unfolding first_broken
rules-of limit r e =
    let a = kept (rule1 r) 1 _ (omega arith) (eqb-true (first_broken limit r) 0 e) in
    let b = kept (rule2 r) 2 _ (omega arith) a.1 in
    let c = kept (rule3 r) 3 _ (omega arith) b.1 in
    let d = kept (rule4 r) 4 _ (omega arith) c.1 in
    let f = kept (rule5 limit r) 5 _ (omega arith) d.1 in
    let g = kept (rule6 r) 6 _ (omega arith) f.1 in
    let h = kept (rule7 r) 7 _ (omega arith) g.1 in
    record { types = a.0; sub-types = b.0; references = c.0; lists = d.0; vectors = f.0; pieces = g.0; detail = h.0 }

-- a vector word of block b in list l: in the range, and 0 where the list is unused
pub record Vectors (limit : ℕ) (r : List ℤ) (b l : ℕ) : Type 0 where
  pub x : vector_word limit (used (reference_of r (quadrant_of b) l)) (vector_x_of r b l) ≡ true
  pub y : vector_word limit (used (reference_of r (quadrant_of b) l)) (vector_y_of r b l) ≡ true

pub vectors-of : (limit : ℕ) (r : List ℤ) → well_formed limit r ≡ true → (b l : ℕ) → b < 16 → l < 2 → Vectors limit r b l
unfolding rule5
vectors-of limit r e b l hb hl =
    let both = both_true _ _ (below_true 2 _ (below_true 16 _ (rules-of limit r e).vectors b hb) l hl) in
    record { x = both.0; y = both.1 }
