use Rattle.std.proofs.Common.{ℕ, ◌<◌, List, get_or, ℤ, lit<}
use Rattle.definitions.specs.Inheriting.{merged}
use Rattle.definitions.proofs.Choices.{four_same}
use Rattle.motion.specs.declared.BlockMotion.{BlockMotion}
use Rattle.motion.specs.ByValue.{zero_block, Reference}
use Rattle.quadrant.proofs.Choosing.{Chosen}
use Rattle.quadrant.proofs.Merging.{merged-block}
use Rattle.quadrant.proofs.Ranks.{four-refer, four-read, lowest-read}
use Rattle.quadrant.proofs.merge.Goals as goal

abbrev first : List BlockMotion → ℕ → ℤ
first m k = (get_or m k zero_block).r0

abbrev second : List BlockMotion → ℕ → ℤ
second m k = (get_or m k zero_block).r1

pub sources_of-f-requires : goal.sources_of-f-requires
sources_of-f-requires c = four-refer (first c.args.m) (λ k h. (c.requires.1 k h).0)

pub sources_of-g-requires : goal.sources_of-g-requires
sources_of-g-requires c = four-refer (second c.args.m) (λ k h. (c.requires.1 k h).1)

pub returns : goal.returns
unfolding merged
returns c =
    let zero : (j : ℕ) → j < 4 → Reference (first c.args.m j) = λ j e. (c.requires.1 j e).0 in
    let one : (j : ℕ) → j < 4 → Reference (second c.args.m j) = λ j e. (c.requires.1 j e).1 in
    let x = four-read (first c.args.m) zero (λ p q s t. Chosen p q s t c.sources_of-f.result) (c.sources_of-f.ensures.reference, (c.sources_of-f.ensures.a, (c.sources_of-f.ensures.b, (c.sources_of-f.ensures.c, (c.sources_of-f.ensures.d))))) in
    let y = four-read (second c.args.m) one (λ p q s t. Chosen p q s t c.sources_of-g.result) (c.sources_of-g.ensures.reference, (c.sources_of-g.ensures.a, (c.sources_of-g.ensures.b, (c.sources_of-g.ensures.c, (c.sources_of-g.ensures.d))))) in
    let u = lowest-read (first c.args.m) zero x.0 in
    let v = lowest-read (second c.args.m) one y.0 in
    four_same
    (merged-block c.args.m c.requires.0 0 (lit< tt) u v x.1.0.0 y.1.0.0 c.joined-a.ensures)
    (merged-block c.args.m c.requires.0 1 (lit< tt) u v x.1.1.0.0 y.1.1.0.0 c.joined-b.ensures)
    (merged-block c.args.m c.requires.0 2 (lit< tt) u v x.1.1.1.0.0 y.1.1.1.0.0 c.joined-c.ensures)
    (merged-block c.args.m c.requires.0 3 (lit< tt) u v x.1.1.1.1.0 y.1.1.1.1.0 c.joined-d.ensures)
