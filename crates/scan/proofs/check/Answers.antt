use mathlib.Core.List.{map}
use borrow.Author.Rules.{rules}
use Rattle.scan.proofs.Passed.{searched}
use Rattle.scan.proofs.check.Goals as goal

pub returns : goal.returns
returns g c =
    searched g.W.Word.LIMIT (map g.W.Word.value c.args.base.now) c.args.to c.args.from c.first_not_quick-a.result c.check.ensures (search rules)
    c.first_not_quick-a.ensures.0 c.first_not_quick-a.ensures.1 c.first_not_quick-a.ensures.2
