use mathlib.Core.List.{map}
use mathlib.Core.Path.{sym, ap, ◌∙◌}
use Rattle.std.proofs.lemmas.Result.{err_from_is_err_and}
use Rattle.std.specs.Prelude.{Ok as Answered}
use Rattle.upsample.proofs.Staging.{site-answered, site-refused}
use Rattle.upsample.proofs.upsample_site.Goals as goal

pub returns-in_err-check_runs-clause-reply : goal.returns-in_err-check_runs-clause-reply
returns-in_err-check_runs-clause-reply g c =
    let e = err_from_is_err_and c.from_residual.result c.from_residual.ensures.1 in
    rw (e.1, e.2) (site-refused g.W.Word.LIMIT c.args.s (map g.W.Word.value c.args.base.now) (map g.W.Word.value c.args.out.now) _ (sym c.check_runs.ensures ∙ c.in_err-check_runs.was)).0

pub returns-in_err-check_runs-clause-words : goal.returns-in_err-check_runs-clause-words
returns-in_err-check_runs-clause-words g c =
    (site-refused g.W.Word.LIMIT c.args.s (map g.W.Word.value c.args.base.now) (map g.W.Word.value c.args.out.now) _ (sym c.check_runs.ensures ∙ c.in_err-check_runs.was)).1

pub returns-clause-reply : goal.returns-clause-reply
returns-clause-reply g c =
    ap Answered c.answer.ensures.answer
    ∙ (site-answered g.W.Word.LIMIT c.args.s (map g.W.Word.value c.args.base.now) (map g.W.Word.value c.args.out.now) (sym c.check_runs.ensures ∙ c.in_ok-check_runs.was)).0

pub returns-clause-words : goal.returns-clause-words
returns-clause-words g c =
    c.answer.ensures.written
    ∙ (site-answered g.W.Word.LIMIT c.args.s (map g.W.Word.value c.args.base.now) (map g.W.Word.value c.args.out.now) (sym c.check_runs.ensures ∙ c.in_ok-check_runs.was)).1
