-- What the machine's comparisons of two words tell of the words, and numbers that are cut to words. Assumes nothing.
use Prim.Native.Nat.{◌<◌}
use mathlib.Core.Path.{◌≡◌, sym, ap, ◌∙◌}
use native.Mathlib.Omega.{arith}
use mathlib.Core.Bool.{true, false, true≢false}
use lib.Dec.{T, leb}
use lib.IntN.{ℤ, pos, negsuc, nat_abs}
use lib.Signed.{non_neg}
use borrow.Author.Tests.{eq-eqb, ne_eqb, leb-true}
use mir.Facts.{sfits_widen, to_z-of_z}
use mir.Syntax.{Width, w16, w32}
use mir.Val.{SFits, of_z, to_z}
use Rattle.definitions.specs.Basics.{between, eq_z}
use Rattle.definitions.proofs.Choices.{both_true, eq_z-true}
use Rattle.definitions.proofs.Motions.{bits-same}

module _ (w : Width) (a b : ℤ) (fa : SFits w a) (fb : SFits w b) where
  pub bits_are : of_z w a ≡ of_z w b → eq_z a b ≡ true
  bits_are e = sym (bits-same w a b fa fb) ∙ eq-eqb _ _ e

  pub bits-are-not : (of_z w a ≡ of_z w b → ⊥) → eq_z a b ≡ false
  bits-are-not ne = sym (bits-same w a b fa fb) ∙ ne_eqb _ _ ne

-- a word that is one number is no other
pub other : (z a b : ℤ) → eq_z z a ≡ true → eq_z a b ≡ false → eq_z z b ≡ false
other z a b is differ = ap (λ (y : ℤ). eq_z y b) (eq_z-true z a is) ∙ differ

-- of sixteen bits
pub word-is : (a b : ℤ) → SFits w16 a → SFits w16 b → of_z w16 a ≡ of_z w16 b → eq_z a b ≡ true
word-is = bits_are w16

pub word-is-not : (a b : ℤ) → SFits w16 a → SFits w16 b → (of_z w16 a ≡ of_z w16 b → ⊥) → eq_z a b ≡ false
word-is-not = bits-are-not w16

-- A number of sixteen bits that is held in 32 is cut to itself.
module _ (z : ℤ) (f : SFits w16 z) where
  pub held : SFits w16 (to_z w32 (of_z w32 z))
  held = rw (to_z-of_z (sfits_widen {w' = w32} tt f)) f

  pub narrowed : to_z w16 (of_z w16 (to_z w32 (of_z w32 z))) ≡ z
  narrowed = to_z-of_z held ∙ to_z-of_z (sfits_widen {w' = w32} tt f)

-- A number of four bits, as rule 7 asks it.
pub four-bits : (z : ℤ) → between (pos 0) (pos 15) z ≡ true → T (non_neg z) × (nat_abs z < 16)
four-bits (pos n) e = (tt, omega (arith, leb-true n 15 (both_true (leb 0 n) (leb n 15) e).1))
four-bits (negsuc n) e = absurd (true≢false (sym e))
