-- `records::write::write_one` meets its contract: the words that are written so far are those of the record. Assumes nothing.
use Rattle.std.proofs.Common.{map, ◌+◌, ◌*◌}
use Rattle.motion.specs.ByValue.{motion_in}
use Rattle.records.proofs.Filled.{Filled}
use Rattle.records.proofs.write.write_one.Given as goal

abbrev pub invariant-loop-w : goal.invariant-loop-w
invariant-loop-w g l = Filled l.fn.kind (motion_in l.fn.m) l.fn.detail (map g.W.Word.value l.out) l.w

abbrev pub invariant-loop-q : goal.invariant-loop-q
invariant-loop-q g l = Filled l.fn.kind (motion_in l.fn.m) l.fn.detail (map g.W.Word.value l.out) (5 + 2 * l.q)

abbrev pub invariant-loop-b : goal.invariant-loop-b
invariant-loop-b g l = Filled l.fn.kind (motion_in l.fn.m) l.fn.detail (map g.W.Word.value l.out) (13 + 4 * l.b)
