-- A record that keeps all rules is well formed, and one that breaks rule 7, or of no type, is not; a test of two parts whose second is made only where the first holds. Assumes nothing.
use Prim.Native.Nat.{ℕ}
use mathlib.Core.Path.{◌≡◌, refl, sym, ap, ◌∙◌}
use mathlib.Core.Bool.{Bool, true, false, not, ◌&&◌, true≢false}
use mathlib.Core.List.{List}
use native.Mathlib.Omega.{arith}
use lib.Dec.{eqb, leb}
use lib.IntN.{ℤ, pos, negsuc}
use borrow.Author.Tests.{not-true, not-false, eqb-false, eq-eqb, lt-leb}
use Rattle.definitions.specs.Basics.{eq_z, between}
use Rattle.definitions.specs.Record.{type_of, rule1, rule7, first_broken, well_formed}
use Rattle.definitions.proofs.Choices.{yes, no, and_no}
use Rattle.definitions.proofs.Formed.{Rules, rules-of}

-- ---- All rules
pub rules-formed : (limit : ℕ) (r : List ℤ) → Rules limit r → well_formed limit r ≡ true
unfolding first_broken
rules-formed limit r k =
    eq-eqb (first_broken limit r) 0
    (no _ _ (ap not k.types)
    ∙ (no _ _ (ap not k.sub-types) ∙ (no _ _ (ap not k.references) ∙ (no _ _ (ap not k.lists) ∙ (no _ _ (ap not k.vectors) ∙ (no _ _ (ap not k.pieces) ∙ no _ _ (ap not k.detail)))))))

-- ---- Rule 7 broken
pub detail_broken : (limit : ℕ) (r : List ℤ) → rule7 r ≡ false → well_formed limit r ≡ false
detail_broken limit r e = by (well_formed limit r) refl
  where
    by : (t : Bool) → well_formed limit r ≡ t → t ≡ false
    by true f = absurd (true≢false (sym (rules-of limit r f).detail ∙ e))
    by false f = refl

-- ---- Rule 1 broken
no-type : (z : ℤ) → eq_z z (pos 0) ≡ false → eq_z z (pos 1) ≡ false → eq_z z (pos 2) ≡ false → eq_z z (pos 3) ≡ false → eq_z z (pos 4) ≡ false → between (pos 0) (pos 4) z ≡ false
no-type (pos n) e0 e1 e2 e3 e4 =
    and_no (leb 0 n) (lt-leb n 4 (omega (arith, eqb-false n 0 e0, eqb-false n 1 e1, eqb-false n 2 e2, eqb-false n 3 e3, eqb-false n 4 e4)))
no-type (negsuc n) e0 e1 e2 e3 e4 = refl

pub none-formed :
    (limit : ℕ) (r : List ℤ) → eq_z (type_of r) (pos 0) ≡ false → eq_z (type_of r) (pos 1) ≡ false → eq_z (type_of r) (pos 2) ≡ false → eq_z (type_of r) (pos 3) ≡ false →
    eq_z (type_of r) (pos 4) ≡ false → well_formed limit r ≡ false
unfolding rule1 first_broken
none-formed limit r e0 e1 e2 e3 e4 = ap (λ (n : ℕ). eqb n 0) (yes _ _ (ap not (no-type (type_of r) e0 e1 e2 e3 e4)))

-- ---- Two parts, a and b; h is what the test of a said
module _ {h a w : Bool} (b : Bool) (said : h ≡ a) (whole : (a && b) ≡ w) where
  pub at_first : not h ≡ true → false ≡ w
  at_first e = sym (ap (λ (t : Bool). t && b) (sym said ∙ not-true h e)) ∙ whole

  pub at_second : {t : Bool} → not h ≡ false → t ≡ b → t ≡ w
  at_second e second = second ∙ (sym (ap (λ (t : Bool). t && b) (sym said ∙ not-false h e)) ∙ whole)
