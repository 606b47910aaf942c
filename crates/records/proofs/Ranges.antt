-- Rules 1 to 5 as ranges of words, rule 5 for a limit. Assumes nothing.
use Prim.Native.Nat.{ℕ, ◌+◌, ◌-◌, ◌*◌}
use mathlib.Core.Path.{◌≡◌, refl, sym, ap, ◌∙◌}
use mathlib.Core.Bool.{Bool, true, false, not, ◌&&◌, and_assoc, and_comm, and-true, and-false, not-not}
use mathlib.Core.List.{List}
use native.Mathlib.Nat.{le_antisymm, add-zero}
use native.Mathlib.Omega.{arith}
use lib.Dec.{leb, eqb}
use lib.IntN.{ℤ, pos, negsuc}
use borrow.Author.Tests.{leb-true, leb-false, eq-eqb, ne_eqb}
use Rattle.definitions.specs.Basics.{minus, eq_z, between, all_below}
use Rattle.definitions.specs.Record.{word_of, type_of, is_intra, used, fits, vector_word, rule1, rule2, rule3, rule4, rule5}
use Rattle.definitions.proofs.Choices.{eq_z-true, yes, no, below-same}
use Rattle.definitions.proofs.Written.{zero-between}
use Rattle.records.specs.Checking.{all_within, quadrant_used, list_right, block_within, vectors_right}
use Rattle.records.proofs.Searches.{below_both, by-quadrants}

-- ---- A range of one number
same-nat : (a b : ℕ) (t u : Bool) → leb a b ≡ t → leb b a ≡ u → (t && u) ≡ eqb b a
same-nat a b true true e f = sym (eq-eqb b a (le_antisymm (leb-true b a f) (leb-true a b e)))
same-nat a b true false e f = sym (ne_eqb b a (λ h. omega (arith, leb-false b a f)))
same-nat a b false u e f = sym (ne_eqb b a (λ h. omega (arith, leb-false a b e)))

pub one_number : (c z : ℤ) → between c c z ≡ eq_z z c
one_number (pos a) (pos b) = same-nat a b _ _ refl refl
one_number (pos a) (negsuc b) = refl
one_number (negsuc a) (pos b) = refl
one_number (negsuc a) (negsuc b) = and_comm (leb b a) (leb a b) ∙ same-nat a b _ _ refl refl

-- in a range that holds 0, and 0
narrowed : (low high z : ℤ) → between low high (pos 0) ≡ true → (between low high z && eq_z z (pos 0)) ≡ between (pos 0) (pos 0) z
narrowed low high z holds = rw (one_number (pos 0) z) (by (eq_z z (pos 0)) refl)
  where
    by : (t : Bool) → eq_z z (pos 0) ≡ t → (between low high z && t) ≡ t
    by true e = and-true (between low high z) ∙ (ap (between low high) (eq_z-true z (pos 0) e) ∙ holds)
    by false e = and-false (between low high z)

-- a range that is given by its ends
pub ends_are :
    (r : List ℤ) (first count : ℕ) {t : Bool} {low high a b : ℤ} → t ≡ all_within r first count low high → (low ≡ a) × (high ≡ b) → t ≡ all_within r first count a b
ends_are r first count e ends = e ∙ (λ i. all_within r first count (ends.0 i) (ends.1 i))

-- ---- Rules 1 to 4
-- the references of the quadrants are words 5 to 12
pairs : (f : ℕ → Bool) → all_below 4 (λ q. all_below 2 (λ l. f (5 + 2 * q + l))) ≡ all_below 8 (λ k. f (5 + k))
unfolding all_below
pairs f = simp and_assoc

module _ (r : List ℤ) where
  pub types : rule1 r ≡ all_within r 0 1 (pos 0) (pos 4)
  unfolding rule1 all_within all_below
  types = refl

  pub sub-types-any : eq_z (type_of r) (pos 4) ≡ true → rule2 r ≡ all_within r 1 4 (pos 0) (pos 3)
  unfolding rule2 all_within
  sub-types-any e = rw e (and-true (all_below 4 (λ q. between (pos 0) (pos 3) (word_of r (1 + q)))))

  pub sub-types-zero : eq_z (type_of r) (pos 4) ≡ false → rule2 r ≡ all_within r 1 4 (pos 0) (pos 0)
  unfolding rule2 all_within
  sub-types-zero e =
      rw e
      (below_both 4 (λ q. between (pos 0) (pos 3) (word_of r (1 + q))) (λ q. eq_z (word_of r (1 + q)) (pos 0))
      (λ q. between (pos 0) (pos 0) (word_of r (1 + q))) (λ q. narrowed (pos 0) (pos 3) (word_of r (1 + q)) refl))

  pub references : rule3 r ≡ all_within r 5 8 (minus 1) (pos 31)
  unfolding rule3 all_within
  references = pairs (λ w. between (minus 1) (pos 31) (word_of r w))

  pub use-none : is_intra r ≡ true → rule4 r ≡ all_within r 5 8 (minus 1) (minus 1)
  unfolding rule4 all_within
  use-none e =
      yes _ _ e
      ∙ (pairs (λ w. not (used (word_of r w)))
      ∙ below-same 8 _ _ (λ k h. not-not (eq_z (word_of r (5 + k)) (minus 1)) ∙ sym (one_number (minus 1) (word_of r (5 + k)))))

  pub use-each : is_intra r ≡ false → rule4 r ≡ all_below 4 (quadrant_used r)
  unfolding rule4
  use-each e = no _ _ e

  module _ (q : ℕ) where
    pub used-first : eq_z (word_of r (5 + 2 * q)) (minus 1) ≡ false → quadrant_used r q ≡ true
    used-first e = rw (add-zero (5 + 2 * q), e)

    pub used-second : eq_z (word_of r (5 + 2 * q)) (minus 1) ≡ true → quadrant_used r q ≡ used (word_of r (5 + 2 * q + 1))
    used-second e = rw (add-zero (5 + 2 * q), e)

-- ---- Rule 5
module _ (limit : ℕ) where
  word-zero : (t : Bool) (v : ℤ) → t ≡ false → vector_word limit t v ≡ between (pos 0) (pos 0) v
  word-zero t v e = rw e (narrowed (minus limit) (pos (limit - 1)) v (zero-between limit))

  word-any : (t : Bool) (v : ℤ) → t ≡ true → vector_word limit t v ≡ fits limit v
  word-any t v e = rw e (and-true (fits limit v))

  module _ (reference : ℤ) where
    pub range-zero : eq_z reference (minus 1) ≡ true → (v : ℤ) → between (pos 0) (pos 0) v ≡ vector_word limit (used reference) v
    range-zero e v = sym (word-zero (used reference) v (ap not e))

    pub range-any : eq_z reference (minus 1) ≡ false → (v : ℤ) → fits limit v ≡ vector_word limit (used reference) v
    range-any e v = sym (word-any (used reference) v (ap not e))

  pub vectors-all : (r : List ℤ) → rule5 limit r ≡ all_below 4 (vectors_right limit r)
  unfolding rule5 vectors_right
  vectors-all r = by-quadrants (λ b. all_below 2 (list_right limit r b))

-- the words of a block
pub block_words :
    (r : List ℤ) (f g : ℤ → Bool) (w : ℕ) → (((f (word_of r w) && f (word_of r (w + 1))) && g (word_of r (w + 2))) && g (word_of r (w + 3))) ≡ block_within f g r w
block_words r f g w = and_assoc (f (word_of r w) && f (word_of r (w + 1))) (g (word_of r (w + 2))) (g (word_of r (w + 3)))
