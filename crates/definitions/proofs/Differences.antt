-- Laws of a difference of two naturals, sub_ℕ. (A computed test below a bound becomes its rule by below_true of Choices.) Assumes nothing.
use Prim.Native.Nat.{ℕ, zero, suc, ◌+◌, ◌-◌, ◌≤◌, ◌<◌}
use mathlib.Core.Path.{◌≡◌, refl, ap, sym, subst, ◌∙◌}
use mathlib.Core.Bool.{Bool, true, false}
use native.Mathlib.Omega.{arith}
use lib.Dec.{ltb}
use lib.IntN.{ℤ, pos, negsuc, sub_ℕ, ◌-ℤ◌}
use borrow.Author.Tests.{lt-ltb, le-ltb, ltb-true, ltb-false}
use Rattle.definitions.specs.Basics.{minus}

pub sub-neg : (a b : ℕ) → a < b → sub_ℕ a b ≡ negsuc (b - suc a)
sub-neg a b h = simp (lt-ltb a b h)

pub sub-pos : (a b : ℕ) → b ≤ a → sub_ℕ a b ≡ pos (a - b)
sub-pos a b h = simp (le-ltb a b h)

-- by the sign
pub sub_cases : (P : ℤ → Type 0) (a b : ℕ) → (a < b → P (negsuc (b - suc a))) → (b ≤ a → P (pos (a - b))) → P (sub_ℕ a b)
sub_cases P a b f g = go (ltb a b) refl
  where
    go : (t : Bool) → ltb a b ≡ t → P (sub_ℕ a b)
    go true q = let l = ltb-true a b q in subst P (sym (sub-neg a b l)) (f l)
    go false q = let l = ltb-false a b q in subst P (sym (sub-pos a b l)) (g l)

-- both moved by the same
pub sub-shift : (a b n m : ℕ) → a + m ≡ n + b → sub_ℕ a b ≡ sub_ℕ n m
sub-shift a b n m e =
    sub_cases (λ z. z ≡ sub_ℕ n m) a b
    (λ l. let d : b - suc a ≡ m - suc n = omega arith in ap negsuc d ∙ sym (sub-neg n m (omega arith)))
    (λ l. let d : a - b ≡ n - m = omega arith in ap pos d ∙ sym (sub-pos n m (omega arith)))

pub pos-minus : (a b : ℕ) → pos a -ℤ pos b ≡ sub_ℕ a b
pos-minus a zero = let e : a + 0 ≡ a - 0 = omega arith in ap pos e ∙ sym (sub-pos a 0 (omega arith))
pos-minus a (suc b) = refl

pub zero_minus : (n : ℕ) → pos 0 -ℤ pos n ≡ minus n
zero_minus zero = refl
zero_minus (suc n) = sub-neg 0 (suc n) (omega arith) ∙ ap negsuc (let e : suc n - 1 ≡ n = omega arith in e)
