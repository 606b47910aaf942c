-- Bytes put into a lent buffer: what the contracts of the writers say.
use Rattle.std.specs.Prelude.{ℕ, ◌+◌, ◌≤◌, ◌≡◌, List, ◌∷◌, length}
use Rattle.std.proofs.lemmas.List.Edits.{sets}
use Rattle.definitions.specs.Basics.{for_each}
use Rattle.definitions.specs.Log.{decimal}

-- there is room for the bytes from an offset on
abbrev pub Fits : List ℕ → ℕ → List ℕ → Type 0
Fits out at bytes = at + length bytes ≤ length out

-- the bytes stand there, all others are as they were, and next is the offset after them
pub record Put (old : List ℕ) (at : ℕ) (bytes new : List ℕ) (next : ℕ) : Type 0 where
  pub stored : new ≡ sets old at bytes
  pub after : next ≡ at + length bytes

-- numbers of a line, each after a space
abbrev pub items_of : List ℕ → List ℕ
items_of numbers = for_each numbers (λ n. 32 ∷ decimal n)
