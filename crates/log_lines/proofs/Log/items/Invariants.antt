use Rattle.std.proofs.Common.{◌≡◌}
use Rattle.std.specs.Prelude.{take}
use Rattle.log_lines.specs.Put.{Put, items_of}
use Rattle.log_lines.proofs.Log.items.Given as goal

abbrev pub invariant-loop-n : goal.invariant-loop-n
invariant-loop-n l = Put l.initial.self.out.now l.initial.self.at (items_of (take l.n-index l.numbers)) l.self.out.now l.self.at × (l.self.out.ghost_name ≡ l.initial.self.out.ghost_name)
