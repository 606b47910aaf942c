use mathlib.Core.Path.{sym, ◌∙◌}
use Rattle.definitions.specs.Basics.{all_below}
use Rattle.records.proofs.Searches.{search-none, search-more, search-end, search-fault}
use Rattle.scan.specs.Quick.{quadrant_right}
use Rattle.scan.proofs.Kept.{at_first, at_second}
use Rattle.scan.proofs.Quarters.{quarters-is}
use mathlib.Core.Path.{ap}
use mathlib.Core.Bool.{not}
use mathlib.Core.List.{map}
use Rattle.scan.proofs.quick_quarters.Goals as goal

pub returns-then-not-quarters_head : goal.returns-then-not-quarters_head
returns-then-not-quarters_head g c = at_first (all_below 4 (quadrant_right g.W.Word.LIMIT (map g.W.Word.value c.args.words.now))) c.quarters_head.ensures (quarters-is g.W.Word.LIMIT (map g.W.Word.value c.args.words.now) c.requires.0 c.requires.1) (ap not c.if-not-quarters_head.true)

pub loop-q-init : goal.loop-q-init
loop-q-init g c = search-none (quadrant_right g.W.Word.LIMIT (map g.W.Word.value c.args.words.now))

pub returns-then-not-quick_quadrant : goal.returns-then-not-quick_quadrant
returns-then-not-quick_quadrant g c = at_second (all_below 4 (quadrant_right g.W.Word.LIMIT (map g.W.Word.value c.args.words.now))) c.quarters_head.ensures (quarters-is g.W.Word.LIMIT (map g.W.Word.value c.args.words.now) c.requires.0 c.requires.1) (ap not c.if-not-quarters_head.false)
    (sym (search-fault (quadrant_right g.W.Word.LIMIT (map g.W.Word.value c.args.words.now)) 4 c.loop-q.q c.loop-q-test.true (sym c.quick_quadrant.ensures ∙ c.if-not-quick_quadrant.true)))

pub loop-q-preserved : goal.loop-q-preserved
loop-q-preserved g c = search-more (quadrant_right g.W.Word.LIMIT (map g.W.Word.value c.args.words.now)) c.loop-q.q c.loop-q.invariant (sym c.quick_quadrant.ensures ∙ c.if-not-quick_quadrant.false)

pub returns : goal.returns
returns g c = at_second (all_below 4 (quadrant_right g.W.Word.LIMIT (map g.W.Word.value c.args.words.now))) c.quarters_head.ensures (quarters-is g.W.Word.LIMIT (map g.W.Word.value c.args.words.now) c.requires.0 c.requires.1) (ap not c.if-not-quarters_head.false)
    (sym (search-end (quadrant_right g.W.Word.LIMIT (map g.W.Word.value c.args.words.now)) 4 c.loop-q.q c.loop-q.auto.q-end c.loop-q-test.false c.loop-q.invariant))
