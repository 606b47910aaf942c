-- Both widths give the same on a base whose vectors fit the narrower limit (specs/Widths), for a limit and any larger one. Assumes nothing.
use Prim.Native.Nat.{ℕ, zero, suc, ◌*◌, ◌-◌, ◌<◌, ◌≤◌}
use mathlib.Core.Path.{◌≡◌, refl, sym, ap, ◌∙◌}
use mathlib.Core.Bool.{Bool, true, not, ◌&&◌, ◌||◌, false≢true}
use mathlib.Core.List.{List, [], ◌∷◌, ◌++◌}
use native.Mathlib.Omega.{arith}
use lib.Dec.{leb, eqb}
use lib.IntN.{ℤ, pos, negsuc, nat_abs}
use lib.ListN.{drop_of_length-le}
use lib.Signed.{le_z}
use borrow.Author.Tests.{leb-true, le-leb}
use Rattle.definitions.specs.declared.Numbers.{Numbers}
use Rattle.std.specs.Prelude.{Ok as Answered, Err as Declined}
use Rattle.std.specs.Prelude.{Ok as Counted, Err as NotMade}
use Rattle.definitions.specs.Basics.{pick, minus, eq_z, between, all_below, up_to, for_each}
use Rattle.definitions.specs.Blocks.{quadrant_of}
use Rattle.definitions.specs.Geometry.{axes_of}
use Rattle.definitions.specs.Answer.{made_of}
use Rattle.definitions.specs.Raster.{full_count}
use Rattle.definitions.specs.Record.{narrow, wide, record_words, fits, laid_out, used, record_at, reference_of, vector_x_of, vector_y_of, vector_word, rule1, rule2, rule3, rule4, rule5, rule6, rule7, first_broken}
use Rattle.definitions.specs.Refusals.{Test, test, verdict_of, geometry_tests, base_test, output_test, position_test, record_tests, addresses_read, all_addresses}
use Rattle.definitions.specs.Calls.{macroblock_tests, macroblock_call, picture_tests, picture_call, by_verdict, made_at, counts_of}
use Rattle.definitions.specs.Widths.{BothWidths, VectorsFit, WidthsSame, vector_record}
use Rattle.definitions.specs.Written.{vectors_in_range}
use Rattle.definitions.proofs.Choices.{both_true, below-same, below_true}

-- ---- a wider range
wider : (a b c d : ℕ) (z : ℤ) → a ≤ c → b ≤ d → between (minus a) (pos b) z ≡ true → between (minus c) (pos d) z ≡ true
wider a b c d (pos n) p q e =
    let h = both_true (le_z (minus a) (pos n)) (le_z (pos n) (pos b)) e in
    let low = leb-true n b h.1 in
    and_both (above c n) (le-leb n d (omega arith))
  where
    and_both : {s t : Bool} → s ≡ true → t ≡ true → (s && t) ≡ true
    and_both e f = rw (e, f) refl

    above : (c n : ℕ) → le_z (minus c) (pos n) ≡ true
    above zero n = le-leb 0 n (omega arith)
    above (suc c) n = refl
wider zero b c d (negsuc n) p q e = absurd (let h = both_true (le_z (minus 0) (negsuc n)) (le_z (negsuc n) (pos b)) e in false≢true h.0)
wider (suc a) b zero d (negsuc n) p q e = absurd (omega arith)
wider (suc a) b (suc c) d (negsuc n) p q e =
    let h = both_true (leb n a) true e in
    let low = leb-true n a h.0 in
    rw (le-leb n c (omega arith)) refl

-- ---- Records, judged by two limits
module _ (small large : ℕ) (over : small ≤ large) where
  word_same : (u : Bool) (v : ℤ) → fits small v ≡ true → vector_word large u v ≡ vector_word small u v
  word_same u v e = let f : fits large v ≡ true = wider small (small - 1) large (large - 1) v over (omega arith) e in λ i. (f ∙ sym e) i && (u || eq_z v (pos 0))

  module _ (base : List ℤ) (fit : VectorsFit small base) where
    word_fits : (a b l : ℕ) → b < 16 → l < 2 → (fits small (vector_x_of (record_at base a) b l) ≡ true) × (fits small (vector_y_of (record_at base a) b l) ≡ true)
    unfolding vectors_in_range
    word_fits a b l p q =
        let r = record_at base a in
        both_true _ _ (below_true 2 (λ l. fits small (vector_x_of r b l) && fits small (vector_y_of r b l))
        (below_true 16 (λ b. all_below 2 (λ l. fits small (vector_x_of r b l) && fits small (vector_y_of r b l))) (fit a) b p) l q)

    rule-same : (a : ℕ) → rule5 large (record_at base a) ≡ rule5 small (record_at base a)
    unfolding rule5
    rule-same a =
        below-same 16 _ _ (λ b p. below-same 2 _ _ (λ l q.
        let f = word_fits a b l p q in
        let u = used (reference_of (record_at base a) (quadrant_of b) l) in
        λ i. word_same u (vector_x_of (record_at base a) b l) f.0 i && word_same u (vector_y_of (record_at base a) b l) f.1 i))

    broken-same : (a : ℕ) → first_broken large (record_at base a) ≡ first_broken small (record_at base a)
    unfolding first_broken
    broken-same a =
        let r = record_at base a in
        ap (λ (t : Bool). pick (not (rule1 r)) 1 (pick (not (rule2 r)) 2 (pick (not (rule3 r)) 3 (pick (not (rule4 r)) 4 (pick (not t) 5 (pick (not (rule6 r)) 6 (pick (not (rule7 r)) 7 0))))))) (rule-same a)

    pub tests_same : (addresses : List ℕ) → record_tests large base addresses ≡ record_tests small base addresses
    unfolding record_tests
    tests_same [] = refl
    tests_same (a ∷ rest) =
        λ i. test (not (eqb (broken-same a i) 0)) (record { number = 8; place = a; rule = broken-same a i }) ∷ tests_same rest i

    pub same-singly : (n : Numbers) (column row : ℤ) (words : List ℤ) → macroblock_call large n base column row words ≡ macroblock_call small n base column row words
    unfolding macroblock_call macroblock_tests
    same-singly n column row words =
        let g = axes_of n in
        let made = made_of g base (nat_abs column) (nat_abs row) in
        ap (λ (ts : List Test). by_verdict (verdict_of (geometry_tests n ++ (base_test g base ∷ output_test 1 words ∷ position_test g column row ∷ ts))) Declined words (record { reply = Answered made.answer; words = made.written }))
        (tests_same (addresses_read g (nat_abs column) (nat_abs row)))

    pub same-picture : (n : Numbers) (words : List ℤ) → picture_call large n base words ≡ picture_call small n base words
    unfolding picture_call picture_tests
    same-picture n words =
        let g = axes_of n in
        let made = up_to (full_count g) (made_at g base) in
        ap (λ (ts : List Test). by_verdict (verdict_of (geometry_tests n ++ (base_test g base ∷ output_test (full_count g) words ∷ ts))) NotMade words (record { reply = Counted (counts_of made); words = for_each made (λ m. m.written) }))
        (tests_same (all_addresses g))

pub widths-same : (small large : ℕ) → small ≤ large → WidthsSame small large
widths-same small large over = record {
  singly = λ n base column row words fit. same-singly small large over base fit n column row words;
  picture = λ n base words fit. same-picture small large over base fit n words;
}

-- beyond the one record of that base there are no words
met : VectorsFit narrow (vector_record 1 (pos 8191))
unfolding vectors_in_range all_below record_at laid_out up_to
met zero = refl
met (suc a) = rw (drop_of_length-le (vector_record 1 (pos 8191)) {i = record_words * suc a} (omega arith)) refl

pub both-widths : BothWidths
both-widths = record { same = widths-same narrow wide (omega arith); met = met }
