use mathlib.Core.Bool.{◌&&◌}
use mathlib.Core.List.{map}
use mathlib.Core.Path.{sym, ◌∙◌}
use Rattle.records.proofs.Searches.{search-none, below_more, search-end}
use Rattle.rules.specs.Searching.{unused_zero}
use Rattle.rules.proofs.Parts.{vectors-apart, within}
use Rattle.rules.proofs.vectors_right.Goals as goal

pub loop-q-init : goal.loop-q-init
loop-q-init g c = sym (search-none (λ q. unused_zero (map g.W.Word.value c.args.words.now) q 0 && unused_zero (map g.W.Word.value c.args.words.now) q 1))

pub loop-q-preserved : goal.loop-q-preserved
loop-q-preserved g c =
    below_more (λ q. unused_zero (map g.W.Word.value c.args.words.now) q 0 && unused_zero (map g.W.Word.value c.args.words.now) q 1) c.loop-q.q c.loop-q.invariant
    (λ i. c.unused_zero.ensures i && c.unused_zero-in-loop-q.ensures i)

pub returns : goal.returns
returns g c =
    let all = within (map g.W.Word.value c.args.words.now) 13 64 c.all_within.ensures c.vectors_within.ensures.0 c.vectors_within.ensures.1 in
    let zero = search-end (λ q. unused_zero (map g.W.Word.value c.args.words.now) q 0 && unused_zero (map g.W.Word.value c.args.words.now) q 1) 4 c.loop-q.q c.loop-q.auto.q-end c.loop-q-test.false (sym c.loop-q.invariant) in
    (λ i. all i && sym zero i) ∙ vectors-apart (map g.W.Word.value c.args.words.now) c.args.limit
