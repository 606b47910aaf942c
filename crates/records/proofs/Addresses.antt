-- Laws of the addresses from .. to−1. Assumes nothing.
use Prim.Native.Nat.{ℕ, zero, suc, ◌+◌, ◌-◌, ◌<◌, ◌≤◌}
use mathlib.Core.Path.{◌≡◌, refl, sym, ap, ◌∙◌}
use mathlib.Core.List.{List, [], ◌∷◌, ◌++◌}
use native.Mathlib.Nat.{sub-zero, zero-add, add-zero}
use native.Mathlib.Omega.{arith}
use lib.IntN.{ℤ}
use Rattle.definitions.specs.declared.Axes.{Axes}
use Rattle.definitions.specs.Basics.{up_to}
use Rattle.definitions.specs.Raster.{base_count}
use Rattle.definitions.specs.Refusals.{verdict_of, record_tests, all_addresses}
use Rattle.definitions.proofs.Choices.{up_to-same}
use Rattle.records.specs.Checking.{addresses}

up_to-front : (n : ℕ) (f : ℕ → ℕ) → up_to (suc n) f ≡ f 0 ∷ up_to n (λ k. f (suc k))
unfolding up_to
up_to-front zero f = refl
up_to-front (suc n) f = ap (λ (l : List ℕ). l ++ (f (suc n) ∷ [])) (up_to-front n f)

pub addresses-more : (a to : ℕ) → a < to → addresses a to ≡ a ∷ addresses (a + 1) to
addresses-more a to h =
    let n : to - a ≡ suc (to - (a + 1)) = omega arith in
    ap (λ (k : ℕ). up_to k (λ k. a + k)) n
    ∙ (up_to-front (to - (a + 1)) (λ k. a + k)
    ∙ (λ i. add-zero a i ∷ up_to-same (to - (a + 1)) (λ k. a + suc k) (λ k. a + 1 + k) (λ k l. omega arith) i))

pub addresses-end : (a to : ℕ) → to ≤ a → addresses a to ≡ []
unfolding up_to
addresses-end a to h = let n : to - a ≡ 0 = omega arith in ap (λ (k : ℕ). up_to k (λ k. a + k)) n

-- one address, and all of a picture's
pub addresses-one : (a : ℕ) → addresses a (a + 1) ≡ a ∷ []
addresses-one a = addresses-more a (a + 1) (omega arith) ∙ ap (λ (l : List ℕ). a ∷ l) (addresses-end (a + 1) (a + 1) (omega arith))

pub addresses-all : (n : ℕ) → addresses 0 n ≡ up_to n (λ a. a)
addresses-all n = ap (λ (k : ℕ). up_to k (λ k. 0 + k)) (sub-zero n) ∙ up_to-same n (λ k. 0 + k) (λ k. k) (λ k l. zero-add k)

-- the check of records 0 .. n−1 is that of all
pub all-checked :
    (limit : ℕ) (g : Axes) (base : List ℤ) (n : ℕ) → n ≡ base_count g → verdict_of (record_tests limit base (all_addresses g)) ≡ verdict_of (record_tests limit base (addresses 0 n))
all-checked limit g base n e = ap (λ (l : List ℕ). verdict_of (record_tests limit base l)) (sym (addresses-all n ∙ ap (λ (k : ℕ). up_to k (λ a. a)) e))
