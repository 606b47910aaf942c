-- The classes of bytes: which bytes are in each.
use Prim.Native.Nat.{ℕ, ◌≤◌, ◌<◌}
use mathlib.Core.Path.{◌≡◌, refl}
use mathlib.Core.Bool.{Bool, true, false, cond}
use native.Mathlib.Omega.{arith}
use lib.Dec.{leb, eqb}
use borrow.Author.Tests.{leb-true, eqb-true, le-leb, lt-leb}
use Rattle.grammar.specs.declared.ByteClass.{ByteClass}
use Rattle.grammar.specs.declared.ByteClass.TheVariants.{Alpha, Zero, Nonzero, Dash, Open, Close, Space, Other}
use Rattle.grammar.specs.Readers.{byte_class_of}
use Rattle.definitions.specs.Text.{Letter}

-- what the class of a byte says of it
abbrev pub In : ByteClass → ℕ → Type 0
In Alpha b = Letter b
In Zero b = b ≡ 48
In Nonzero b = (49 ≤ b) × (b ≤ 57)
In Dash b = b ≡ 45
In Open b = b ≡ 40
In Close b = b ≡ 41
In Space b = b ≡ 32
In Other b = Unit {0}

record Is (c : ByteClass) (b : ℕ) : Type 0 where
  is : In c b

picked : (t : Bool) {c d : ByteClass} {b : ℕ} → (t ≡ true → Is c b) → (t ≡ false → Is d b) → Is (cond t c d) b
picked true f g = f refl
picked false f g = g refl

class-is : (b : ℕ) → Is (byte_class_of b) b
unfolding byte_class_of
class-is b =
    picked (leb 97 b) (λ h. picked (leb b 122) (λ k. record { is = (leb-true _ _ h, leb-true _ _ k) }) other)
    (λ h. picked (leb 49 b) (λ h. picked (leb b 57) (λ k. record { is = (leb-true _ _ h, leb-true _ _ k) }) other)
    (λ h. picked (eqb b 48) (λ k. record { is = eqb-true _ _ k })
    (λ h. picked (eqb b 45) (λ k. record { is = eqb-true _ _ k })
    (λ h. picked (eqb b 40) (λ k. record { is = eqb-true _ _ k })
    (λ h. picked (eqb b 41) (λ k. record { is = eqb-true _ _ k })
    (λ h. picked (eqb b 32) (λ k. record { is = eqb-true _ _ k }) other))))))
  where
    other : {t : Bool} → t ≡ false → Is Other b
    other k = record { is = tt }

pub class-in : (b : ℕ) {c : ByteClass} → byte_class_of b ≡ c → In c b
class-in b e = (rw e at (class-is b)).is

pub class-alpha : (b : ℕ) → Letter b → byte_class_of b ≡ Alpha
unfolding byte_class_of
class-alpha b h = simp (le-leb _ _ h.0, le-leb _ _ h.1)

pub class-nonzero : (b : ℕ) → 49 ≤ b → b ≤ 57 → byte_class_of b ≡ Nonzero
unfolding byte_class_of
class-nonzero b h k =
    let n : b < 97 = omega arith in
    simp (lt-leb _ _ n, le-leb _ _ h, le-leb _ _ k)

pub class-zero : (b : ℕ) → b ≡ 48 → byte_class_of b ≡ Zero
unfolding byte_class_of
class-zero b h = rw h

pub class-dash : (b : ℕ) → b ≡ 45 → byte_class_of b ≡ Dash
unfolding byte_class_of
class-dash b h = rw h

pub class-open : (b : ℕ) → b ≡ 40 → byte_class_of b ≡ Open
unfolding byte_class_of
class-open b h = rw h

pub class-close : (b : ℕ) → b ≡ 41 → byte_class_of b ≡ Close
unfolding byte_class_of
class-close b h = rw h

pub class-space : (b : ℕ) → b ≡ 32 → byte_class_of b ≡ Space
unfolding byte_class_of
class-space b h = rw h
