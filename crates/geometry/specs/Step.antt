-- The words that the contracts of step.rt and map.rt are written in.
use Rattle.std.specs.Prelude.{ℕ, ◌/◌, ◌%◌, ◌<◌, List, [], ◌∷◌, ◌≡◌, ℤ, nat_abs, get_or, length}
use Rattle.definitions.specs.declared.Axis.{Axis}
use Rattle.definitions.specs.Accepted.{AcceptedAxis}
use Rattle.definitions.specs.BlockMap.{digits_of}
use Rattle.definitions.specs.Geometry.{d1_of, d2_of, even, k_of, rounded_of}

-- an axis of an accepted geometry, and a sample far below what 32 bits hold
pub record AtSample (a : Axis) (p : ℕ) : Type 0 where
  pub accepted : AcceptedAxis a
  pub reach : p < 65536

-- what steps 1 to 3 give for B, S and c: k, D1 and D2
pub record RoundedAt (b s c k : ℕ) (d1 d2 : ℤ) : Type 0 where
  pub k-is : k ≡ k_of b s c
  pub d1-is : d1 ≡ rounded_of (d1_of b s c)
  pub d2-is : d2 ≡ rounded_of (d2_of b s c)

-- the four decimal digits of a number below 10,000
abbrev pub decimals : ℕ → List ℕ
decimals r = r / 1000 ∷ r / 100 % 10 ∷ r / 10 % 10 ∷ r % 10 ∷ []

-- a table by k % 2, |M| / 4 and |N| / 4 that has each row of the block map at these indices
pub record Complete (table : List (List (List ℕ))) : Type 0 where
  pub row : (k : ℕ) (m n : ℤ) → length (digits_of (even k) m n) ≡ 4 → decimals (get_or (get_or (get_or table (k % 2) []) (nat_abs m / 4) []) (nat_abs n / 4) 0) ≡ digits_of (even k) m n
