use mathlib.Core.List.{map}
use mathlib.Core.Path.{sym, ◌∙◌}
use Rattle.std.proofs.lemmas.Result.{err_from_is_err_and}
use Rattle.upsample.proofs.Naming.{then-lower, upper-refused}
use Rattle.upsample.proofs.check_runs.Goals as goal

pub returns-in_err-check : goal.returns-in_err-check
returns-in_err-check g c =
    let e = err_from_is_err_and c.from_residual.result c.from_residual.ensures.1 in
    rw (e.1, e.2) (upper-refused g.W.Word.LIMIT (map g.W.Word.value c.args.base.now) c.args.upper c.args.lower _ (sym c.check.ensures ∙ c.in_err-check.was))

pub returns : goal.returns
returns g c =
    c.check-2.ensures ∙ then-lower g.W.Word.LIMIT (map g.W.Word.value c.args.base.now) c.args.upper c.args.lower (sym c.check.ensures ∙ c.in_ok-check.was)
