use Rattle.grammar.proofs.Numerals.{DigitsSoFar}
use Prim.Native.Nat.{◌-◌}
use lib.ListN.{length}
use Rattle.sync_numbers.proofs.figures.Given as goal

abbrev pub invariant-loop-p : goal.invariant-loop-p
invariant-loop-p l = DigitsSoFar l.fn.t.bytes.now l.fn.t.at l.a l.top l.n l.p

abbrev pub decreases-loop-p : goal.decreases-loop-p
decreases-loop-p l = length l.fn.t.bytes.now - l.p
