-- `all_within` meets its contract: the tests of the words passed. Assumes nothing.
use Prim.Native.Nat.{◌+◌}
use mathlib.Core.Path.{◌≡◌}
use mathlib.Core.List.{map}
use Rattle.definitions.specs.Basics.{between, all_below}
use Rattle.definitions.specs.Record.{word_of}
use Rattle.records.proofs.check.all_within.Given as goal

abbrev pub invariant-loop-k : goal.invariant-loop-k
invariant-loop-k g l = l.right ≡ all_below l.k (λ k. between (g.W.Word.value l.range.low) (g.W.Word.value l.range.high) (word_of (map g.W.Word.value l.words) (l.first + k)))
