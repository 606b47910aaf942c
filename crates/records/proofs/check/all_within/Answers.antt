use Prim.Native.Nat.{◌+◌}
use mathlib.Core.List.{map}
use mathlib.Core.Path.{sym}
use Rattle.definitions.specs.Basics.{between}
use Rattle.definitions.specs.Record.{word_of}
use Rattle.records.specs.Checking.{all_within}
use Rattle.records.proofs.Searches.{search-none, below_more, search-end}
use Rattle.records.proofs.check.all_within.Goals as goal

pub loop-k-init : goal.loop-k-init
loop-k-init g c = sym (search-none (λ k. between (g.W.Word.value c.args.range.low) (g.W.Word.value c.args.range.high) (word_of (map g.W.Word.value c.args.words.now) (c.args.first + k))))

pub loop-k-preserved : goal.loop-k-preserved
loop-k-preserved g c =
    below_more (λ k. between (g.W.Word.value c.args.range.low) (g.W.Word.value c.args.range.high) (word_of (map g.W.Word.value c.args.words.now) (c.args.first + k))) c.loop-k.k c.loop-k.invariant c.word_within-right.ensures

pub returns : goal.returns
unfolding all_within
returns g c =
    sym
    (search-end (λ k. between (g.W.Word.value c.args.range.low) (g.W.Word.value c.args.range.high) (word_of (map g.W.Word.value c.args.words.now) (c.args.first + k))) c.args.count c.loop-k.k c.loop-k.auto.k-end c.loop-k-test.false (sym c.loop-k.invariant))
