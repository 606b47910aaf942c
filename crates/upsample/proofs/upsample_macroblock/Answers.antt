use mathlib.Core.List.{map}
use mathlib.Core.Path.{sym, ap, subst, ◌∙◌}
use mir.Facts.{to_z-of_z}
use Rattle.std.proofs.lemmas.List.{length-map}
use Rattle.std.proofs.lemmas.Result.{err_from_is_err_and}
use Rattle.std.specs.Prelude.{Err}
use Rattle.definitions.specs.Replies.{MacroblockReply}
use Rattle.upsample.specs.Promised.{SinglyPromised}
use Rattle.upsample.specs.Sited.{placed}
use Rattle.upsample.proofs.Kept.{answered-kept, refused-kept, site-callable}
use Rattle.upsample.proofs.upsample_macroblock.Goals as goal

pub returns-in_err-place-clause-reply : goal.returns-in_err-place-clause-reply
returns-in_err-place-clause-reply g c =
    let e = err_from_is_err_and c.from_residual.result c.from_residual.ensures.1 in
    let base = map g.W.Word.value c.args.base.now in
    let out = map g.W.Word.value c.args.out.now in
    let there = rw (to_z-of_z c.ranges.column, to_z-of_z c.ranges.row) at c.in_err-place.ensures.refused base out (length-map _ _) (length-map _ _) in
    rw (e.1, e.2) (refused-kept g.W.Word.LIMIT c.args.n base c.args.column c.args.row out _ there).0

pub returns-in_err-place-clause-words : goal.returns-in_err-place-clause-words
returns-in_err-place-clause-words g c =
    let base = map g.W.Word.value c.args.base.now in
    let out = map g.W.Word.value c.args.out.now in
    let there = rw (to_z-of_z c.ranges.column, to_z-of_z c.ranges.row) at c.in_err-place.ensures.refused base out (length-map _ _) (length-map _ _) in
    (refused-kept g.W.Word.LIMIT c.args.n base c.args.column c.args.row out _ there).1.0

pub returns-in_err-place-clause-demand3 : goal.returns-in_err-place-clause-demand3
returns-in_err-place-clause-demand3 g c =
    let e = err_from_is_err_and c.from_residual.result c.from_residual.ensures.1 in
    let base = map g.W.Word.value c.args.base.now in
    let out = map g.W.Word.value c.args.out.now in
    let there = rw (to_z-of_z c.ranges.column, to_z-of_z c.ranges.row) at c.in_err-place.ensures.refused base out (length-map _ _) (length-map _ _) in
    subst (λ (r : MacroblockReply). SinglyPromised g.W.Word.LIMIT c.args.n base c.args.column c.args.row out r out) (sym (e.1 ∙ ap Err e.2))
    (refused-kept g.W.Word.LIMIT c.args.n base c.args.column c.args.row out _ there).1.1

pub upsample_site-requires : goal.upsample_site-requires
upsample_site-requires g c =
    let base = map g.W.Word.value c.args.base.now in
    let out = map g.W.Word.value c.args.out.now in
    let there = rw (to_z-of_z c.ranges.column, to_z-of_z c.ranges.row) at c.in_ok-place.ensures.placed base out (length-map _ _) (length-map _ _) in
    site-callable g.W.Word.LIMIT c.args.n base c.args.column c.args.row out (placed c.in_ok-place.place) there c.site_of.result c.site_of.ensures

pub returns-clause-reply : goal.returns-clause-reply
returns-clause-reply g c =
    let base = map g.W.Word.value c.args.base.now in
    let out = map g.W.Word.value c.args.out.now in
    let there = rw (to_z-of_z c.ranges.column, to_z-of_z c.ranges.row) at c.in_ok-place.ensures.placed base out (length-map _ _) (length-map _ _) in
    (answered-kept g.W.Word.LIMIT c.args.n base c.args.column c.args.row out (placed c.in_ok-place.place) there c.site_of.result c.site_of.ensures _ _ c.upsample_site.ensures.reply c.upsample_site.ensures.words).0

pub returns-clause-words : goal.returns-clause-words
returns-clause-words g c =
    let base = map g.W.Word.value c.args.base.now in
    let out = map g.W.Word.value c.args.out.now in
    let there = rw (to_z-of_z c.ranges.column, to_z-of_z c.ranges.row) at c.in_ok-place.ensures.placed base out (length-map _ _) (length-map _ _) in
    (answered-kept g.W.Word.LIMIT c.args.n base c.args.column c.args.row out (placed c.in_ok-place.place) there c.site_of.result c.site_of.ensures _ _ c.upsample_site.ensures.reply c.upsample_site.ensures.words).1.0

pub returns-clause-demand3 : goal.returns-clause-demand3
returns-clause-demand3 g c =
    let base = map g.W.Word.value c.args.base.now in
    let out = map g.W.Word.value c.args.out.now in
    let there = rw (to_z-of_z c.ranges.column, to_z-of_z c.ranges.row) at c.in_ok-place.ensures.placed base out (length-map _ _) (length-map _ _) in
    (answered-kept g.W.Word.LIMIT c.args.n base c.args.column c.args.row out (placed c.in_ok-place.place) there c.site_of.result c.site_of.ensures _ _ c.upsample_site.ensures.reply c.upsample_site.ensures.words).1.1
