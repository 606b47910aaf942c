use mathlib.Core.List.{map}
use native.Mathlib.Omega.{arith}
use Rattle.scan.proofs.Undivided.{repeat-none, repeat-more, repeat-end}
use Rattle.scan.proofs.vectors_repeat.Goals as goal

pub loop-b-init : goal.loop-b-init
loop-b-init g c = (omega arith, repeat-none (map g.W.Word.value c.args.words.now) c.args.first c.args.step)

pub loop-b-preserved : goal.loop-b-preserved
loop-b-preserved g c = (
  omega (arith, c.loop-b.auto.b, c.loop-b-test.true),
  repeat-more (map g.W.Word.value c.args.words.now) c.args.first c.args.step c.loop-b.b c.loop-b.auto.b c.loop-b.invariant.1 c.same_vectors-same.ensures,
)

pub returns : goal.returns
returns g c = repeat-end (map g.W.Word.value c.args.words.now) c.args.first c.args.step c.args.end c.loop-b.b c.loop-b.invariant.0 c.loop-b-test.false c.loop-b.invariant.1
