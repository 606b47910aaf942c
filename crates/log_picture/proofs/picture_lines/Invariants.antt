use Prim.Native.Nat.{◌+◌, ◌*◌}
use mathlib.Core.Path.{◌≡◌}
use Rattle.log_picture.proofs.Growing.{SoFar}
use Rattle.log_picture.proofs.picture_lines.Given as goal

abbrev pub invariant-loop-row : goal.invariant-loop-row
invariant-loop-row l = SoFar l.base.geometry.axes l.base.words.now l.fn.out l.log.out.now l.log.at l.counts (l.row * l.width) × (l.log.out.ghost_name ≡ l.initial.log.out.ghost_name)

abbrev pub invariant-loop-column : goal.invariant-loop-column
invariant-loop-column l =
    SoFar l.base.geometry.axes l.base.words.now l.fn.out l.log.out.now l.log.at l.counts (l.row * l.width + l.column) × (l.log.out.ghost_name ≡ l.initial.log.out.ghost_name)
