use Prim.Native.Nat.{◌+◌, ◌*◌}
use mathlib.Core.List.{map}
use Rattle.picture.proofs.Filling.{SoFar}
use Rattle.picture.proofs.fill.Given as goal

abbrev pub invariant-loop-row : goal.invariant-loop-row
invariant-loop-row g l = SoFar l.base.geometry.axes (map g.W.Word.value l.base.words.now) (map g.W.Word.value l.fn.out) (map g.W.Word.value l.out) l.counts (l.row * l.width)

abbrev pub invariant-loop-column : goal.invariant-loop-column
invariant-loop-column g l =
    SoFar l.base.geometry.axes (map g.W.Word.value l.base.words.now) (map g.W.Word.value l.fn.out) (map g.W.Word.value l.out) l.counts (l.row * l.width + l.column)
