use Rattle.picture.specs.Reads.{AxisReads}
use Rattle.picture.proofs.read_columns.Given as goal

abbrev pub invariant-loop-x : goal.invariant-loop-x
invariant-loop-x l = AxisReads l.a.axis l.x l.reads
