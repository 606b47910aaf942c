use borrow.Author.Rules.{rules}
use Rattle.std.proofs.Common.{[], ◌∷◌}
use Rattle.std.specs.Prelude.{get_or}
use Rattle.definitions.specs.Log.{decimal}
use Rattle.log_lines.proofs.Putting.{put_then, fits-first, fits-then, each_fits, each-put}
use Rattle.log_lines.proofs.Log.items.Goals as goal

pub byte-requires : goal.byte-requires
byte-requires c = fits-first c.loop-n.self.out.now c.loop-n.self.at (32 ∷ []) (decimal (get_or c.args.numbers.now c.loop-n.n-index 0)) (each_fits (λ n. 32 ∷ decimal n) c.args.numbers.now c.loop-n.n-index c.loop-n.invariant.0 c.loop-n-test.true c.requires)

pub number-requires : goal.number-requires
number-requires c = fits-then (decimal (get_or c.args.numbers.now c.loop-n.n-index 0)) (each_fits (λ n. 32 ∷ decimal n) c.args.numbers.now c.loop-n.n-index c.loop-n.invariant.0 c.loop-n-test.true c.requires) c.byte.ensures.bytes

pub loop-n-preserved : goal.loop-n-preserved
loop-n-preserved c = (each-put (λ n. 32 ∷ decimal n) c.args.numbers.now c.loop-n.n-index c.loop-n.invariant.0 c.loop-n-test.true (put_then c.byte.ensures.bytes c.number.ensures.bytes), search rules)
