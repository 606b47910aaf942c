use Rattle.std.proofs.Common.{[], ◌∷◌, ◌≡◌}
use Rattle.std.specs.Prelude.{take}
use Rattle.definitions.specs.Basics.{for_each}
use Rattle.log_lines.specs.Put.{Put}
use Rattle.log_lines.proofs.Log.word.Given as goal

abbrev pub invariant-loop-b : goal.invariant-loop-b
invariant-loop-b l = Put l.initial.self.out.now l.initial.self.at (for_each (take l.b-index l.word) (λ b. b ∷ [])) l.self.out.now l.self.at × (l.self.out.ghost_name ≡ l.initial.self.out.ghost_name)
