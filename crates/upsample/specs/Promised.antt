-- Demand 3 of what the one-macroblock call hands over, as its contract says it.
use Rattle.std.specs.Prelude.{ℕ, List, ℤ, nat_abs}
use Rattle.definitions.specs.declared.Numbers.{Numbers}
use Rattle.definitions.specs.Replies.{MacroblockReply}
use Rattle.std.specs.Prelude.{Ok as Answered, Err as Declined}
use Rattle.definitions.specs.Demand3.{Demand3Singly, SinglyCase}

-- answered, its answer and its written record are as demanded (by the clause reply, column and row are then not below 0); refused, there is no case of the demand
abbrev pub SinglyPromised : ℕ → Numbers → List ℤ → ℤ → ℤ → List ℤ → MacroblockReply → List ℤ → Type 0
SinglyPromised limit n base column row words (Answered answer) written = Demand3Singly limit n (nat_abs column) (nat_abs row) words base answer written
SinglyPromised limit n base column row words (Declined r) written = SinglyCase limit n column row base words → ⊥
