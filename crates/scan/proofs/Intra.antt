-- A record of type 0 is well formed where its words are 0, and its references −1. Assumes nothing.
use Prim.Native.Nat.{ℕ, zero, suc, ◌+◌, ◌*◌, ◌/◌, ◌%◌, ◌<◌}
use mathlib.Core.Path.{◌≡◌, refl, sym, ap, ◌∙◌}
use mathlib.Core.Bool.{Bool, true, false, ◌&&◌}
use mathlib.Core.List.{List}
use native.Mathlib.Omega.{arith}
use lib.IntN.{ℤ, pos}
use Rattle.definitions.specs.Basics.{minus, eq_z, between}
use Rattle.definitions.specs.Blocks.{quadrant_of}
use Rattle.definitions.specs.Record.{word_of, type_of, is_intra, reference_of, vector_x_of, vector_y_of, used, vector_word, rule1, rule3, rule5, rule6, rule7, well_formed}
use Rattle.definitions.proofs.Choices.{both_true, both_ways, and_intro, or_left, or_right, eq_z-true, below_true, below-intro}
use Rattle.definitions.proofs.Formed.{rules-of, vectors-of}
use Rattle.definitions.proofs.Written.{zero-between}
use Rattle.records.specs.Checking.{all_within}
use Rattle.records.proofs.Ranges.{one_number, sub-types-zero, use-none, range-zero}
use Rattle.scan.proofs.Kept.{rules-formed}

-- words in a range of one number
within-only : (r : List ℤ) (first count : ℕ) (z : ℤ) → all_within r first count z z ≡ true → (k : ℕ) → k < count → word_of r (first + k) ≡ z
unfolding all_within
within-only r first count z e k h =
    eq_z-true _ z (sym (one_number z (word_of r (first + k))) ∙ below_true count (λ k. between z z (word_of r (first + k))) e k h)

zero_right : (limit : ℕ) (t : Bool) → vector_word limit t (pos 0) ≡ true
zero_right limit t = and_intro (zero-between limit) (or_right t refl)

module _ (limit : ℕ) (r : List ℤ) (intra : is_intra r ≡ true) (seven : rule7 r ≡ true) where
  type : type_of r ≡ pos 0
  type = eq_z-true (type_of r) (pos 0) intra

  not-4 : eq_z (type_of r) (pos 4) ≡ false
  not-4 = ap (λ (z : ℤ). eq_z z (pos 4)) type

  reference : all_within r 5 8 (minus 1) (minus 1) ≡ true → (q l : ℕ) → q < 4 → l < 2 → reference_of r q l ≡ minus 1
  reference references q l hq hl =
      let e : 5 + 2 * q + l ≡ 5 + (2 * q + l) = omega arith in
      ap (word_of r) e ∙ within-only r 5 8 (minus 1) references (2 * q + l) (omega arith)

  -- ---- The words, and so the rules
  module _ (subs : all_within r 1 4 (pos 0) (pos 0) ≡ true) (references : all_within r 5 8 (minus 1) (minus 1) ≡ true) (vectors : all_within r 13 64 (pos 0) (pos 0) ≡ true) where
    right1 : rule1 r ≡ true
    unfolding rule1
    right1 = ap (between (pos 0) (pos 4)) type

    right3 : rule3 r ≡ true
    unfolding rule3
    right3 = below-intro 4 _ (λ q hq. below-intro 2 _ (λ l hl. ap (between (minus 1) (pos 31)) (reference references q l hq hl)))

    vector : (w k : ℕ) (t : Bool) → w ≡ 13 + k → k < 64 → vector_word limit t (word_of r w) ≡ true
    vector w k t e h = ap (vector_word limit t) (ap (word_of r) e ∙ within-only r 13 64 (pos 0) vectors k h) ∙ zero_right limit t

    right5 : rule5 limit r ≡ true
    unfolding rule5
    right5 =
        below-intro 16 _ (λ b hb. below-intro 2 _ (λ l hl.
        and_intro
        (vector (13 + 4 * b + 2 * l) (4 * b + 2 * l) (used (reference_of r (quadrant_of b) l)) (omega arith) (omega arith))
        (vector (13 + 4 * b + 2 * l + 1) (4 * b + 2 * l + 1) (used (reference_of r (quadrant_of b) l)) (omega arith) (omega arith))))

    right6 : rule6 r ≡ true
    unfolding rule6
    right6 = or_left _ intra

    words-formed : well_formed limit r ≡ true
    words-formed =
        rules-formed limit r (record {
          types = right1;
          sub-types = sub-types-zero r not-4 ∙ subs;
          references = right3;
          lists = use-none r intra ∙ references;
          vectors = right5;
          pieces = right6;
          detail = seven;
        })

  -- ---- The rules, and so the words
  module _ (formed : well_formed limit r ≡ true) where
    formed-subs : all_within r 1 4 (pos 0) (pos 0) ≡ true
    formed-subs = sym (sub-types-zero r not-4) ∙ (rules-of limit r formed).sub-types

    formed-references : all_within r 5 8 (minus 1) (minus 1) ≡ true
    formed-references = sym (use-none r intra) ∙ (rules-of limit r formed).lists

    -- list l of block b is unused, so that its vector is 0
    zero-vector :
        (b l : ℕ) → b < 16 → l < 2 → (between (pos 0) (pos 0) (vector_x_of r b l) ≡ true) × (between (pos 0) (pos 0) (vector_y_of r b l) ≡ true)
    zero-vector b l hb hl =
        let unused = ap (λ (z : ℤ). eq_z z (minus 1)) (reference formed-references (quadrant_of b) l (omega arith) hl) in
        let range = range-zero limit (reference_of r (quadrant_of b) l) unused in
        let v = vectors-of limit r formed b l hb hl in
        (range (vector_x_of r b l) ∙ v.x, range (vector_y_of r b l) ∙ v.y)

    zero_word : (k m : ℕ) → k < 64 → k % 2 ≡ m → between (pos 0) (pos 0) (word_of r (13 + k)) ≡ true
    zero_word k zero h even =
        let at : 13 + k ≡ 13 + 4 * (k / 4) + 2 * (k % 4 / 2) = omega arith in
        ap (λ (w : ℕ). between (pos 0) (pos 0) (word_of r w)) at ∙ (zero-vector (k / 4) (k % 4 / 2) (omega arith) (omega arith)).0
    zero_word k (suc zero) h odd =
        let at : 13 + k ≡ 13 + 4 * (k / 4) + 2 * (k % 4 / 2) + 1 = omega arith in
        ap (λ (w : ℕ). between (pos 0) (pos 0) (word_of r w)) at ∙ (zero-vector (k / 4) (k % 4 / 2) (omega arith) (omega arith)).1
    zero_word k (suc (suc m)) h e = absurd (omega arith)

    formed-vectors : all_within r 13 64 (pos 0) (pos 0) ≡ true
    unfolding all_within
    formed-vectors = below-intro 64 _ (λ k h. zero_word k (k % 2) h refl)

  pub intra-is : ((all_within r 1 4 (pos 0) (pos 0) && all_within r 5 8 (minus 1) (minus 1)) && all_within r 13 64 (pos 0) (pos 0)) ≡ well_formed limit r
  intra-is =
      both_ways _ _
      (λ e.
      let both = both_true _ _ e in
      let first_two = both_true _ _ both.0 in
      words-formed first_two.0 first_two.1 both.1)
      (λ e. and_intro (and_intro (formed-subs e) (formed-references e)) (formed-vectors e))
