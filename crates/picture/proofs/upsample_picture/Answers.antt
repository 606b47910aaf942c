use mathlib.Core.Path.{refl, ap, ◌∙◌}
use mathlib.Core.List.{map}
use Rattle.std.proofs.lemmas.Result.{err_from_is_err_and}
use Rattle.std.specs.Prelude.{Ok, Err}
use Rattle.bases.proofs.Judged.{passed, stopped}
use Rattle.picture.proofs.Promises.{handed-kept}
use Rattle.picture.proofs.Stages.{at_geometry, base-wrong, output-formed, output-wrong, picture-made, record-wrong}
use Rattle.picture.proofs.upsample_picture.Goals as goal

pub returns-in_err-geometry-clause-reply : goal.returns-in_err-geometry-clause-reply
returns-in_err-geometry-clause-reply g c =
    let p = err_from_is_err_and c.from_residual.result c.from_residual.ensures.1 in
    let h = at_geometry g.W.Word.value g.W.Word.LIMIT c.args.n c.args.base.now c.args.out.now _ c.in_err-geometry.ensures.refused in
    (handed-kept g.W.Word.LIMIT c.args.n (map g.W.Word.value c.args.base.now) (map g.W.Word.value c.args.out.now) c.from_residual.result _ _ (p.1 ∙ ap Err p.2) h).0

pub returns-in_err-geometry-clause-words : goal.returns-in_err-geometry-clause-words
returns-in_err-geometry-clause-words g c =
    let p = err_from_is_err_and c.from_residual.result c.from_residual.ensures.1 in
    let h = at_geometry g.W.Word.value g.W.Word.LIMIT c.args.n c.args.base.now c.args.out.now _ c.in_err-geometry.ensures.refused in
    (handed-kept g.W.Word.LIMIT c.args.n (map g.W.Word.value c.args.base.now) (map g.W.Word.value c.args.out.now) c.from_residual.result _ _ (p.1 ∙ ap Err p.2) h).1.0

pub returns-in_err-base-clause-reply : goal.returns-in_err-base-clause-reply
returns-in_err-base-clause-reply g c =
    let p = err_from_is_err_and c.from_residual-in_err-base.result c.from_residual-in_err-base.ensures.1 in
    let h = base-wrong g.W.Word.value g.W.Word.LIMIT c.args.n c.args.base.now c.args.out.now c.in_ok-geometry.ensures.accepted.0 c.in_ok-geometry.geometry.axes c.in_ok-geometry.ensures.accepted.1 (λ h. cc (c.in_err-base.ensures.right.1 h)) _ c.in_err-base.ensures.refused in
    (handed-kept g.W.Word.LIMIT c.args.n (map g.W.Word.value c.args.base.now) (map g.W.Word.value c.args.out.now) c.from_residual-in_err-base.result _ _ (p.1 ∙ ap Err p.2) h).0

pub returns-in_err-base-clause-words : goal.returns-in_err-base-clause-words
returns-in_err-base-clause-words g c =
    let p = err_from_is_err_and c.from_residual-in_err-base.result c.from_residual-in_err-base.ensures.1 in
    let h = base-wrong g.W.Word.value g.W.Word.LIMIT c.args.n c.args.base.now c.args.out.now c.in_ok-geometry.ensures.accepted.0 c.in_ok-geometry.geometry.axes c.in_ok-geometry.ensures.accepted.1 (λ h. cc (c.in_err-base.ensures.right.1 h)) _ c.in_err-base.ensures.refused in
    (handed-kept g.W.Word.LIMIT c.args.n (map g.W.Word.value c.args.base.now) (map g.W.Word.value c.args.out.now) c.from_residual-in_err-base.result _ _ (p.1 ∙ ap Err p.2) h).1.0

pub returns-in_err-unless-clause-reply : goal.returns-in_err-unless-clause-reply
returns-in_err-unless-clause-reply g c =
    let p = err_from_is_err_and c.from_residual-in_err-unless.result c.from_residual-in_err-unless.ensures.1 in
    let t = stopped _ _ 6 c.output_right.result c.unless.result c.output_right.ensures c.unless.ensures _ c.in_err-unless.was in
    let h = output-wrong g.W.Word.value g.W.Word.LIMIT c.args.n c.args.base.now c.args.out.now c.in_ok-geometry.ensures.accepted.0 c.in_ok-geometry.geometry.axes c.in_ok-geometry.ensures.accepted.1 (c.in_ok-base.ensures.right.0 refl) c.full_count.result c.full_count.ensures.0 t.0 _ t.1 in
    (handed-kept g.W.Word.LIMIT c.args.n (map g.W.Word.value c.args.base.now) (map g.W.Word.value c.args.out.now) c.from_residual-in_err-unless.result _ _ (p.1 ∙ ap Err p.2) h).0

pub returns-in_err-unless-clause-words : goal.returns-in_err-unless-clause-words
returns-in_err-unless-clause-words g c =
    let p = err_from_is_err_and c.from_residual-in_err-unless.result c.from_residual-in_err-unless.ensures.1 in
    let t = stopped _ _ 6 c.output_right.result c.unless.result c.output_right.ensures c.unless.ensures _ c.in_err-unless.was in
    let h = output-wrong g.W.Word.value g.W.Word.LIMIT c.args.n c.args.base.now c.args.out.now c.in_ok-geometry.ensures.accepted.0 c.in_ok-geometry.geometry.axes c.in_ok-geometry.ensures.accepted.1 (c.in_ok-base.ensures.right.0 refl) c.full_count.result c.full_count.ensures.0 t.0 _ t.1 in
    (handed-kept g.W.Word.LIMIT c.args.n (map g.W.Word.value c.args.base.now) (map g.W.Word.value c.args.out.now) c.from_residual-in_err-unless.result _ _ (p.1 ∙ ap Err p.2) h).1.0

pub returns-in_err-unless-clause-demand3 : goal.returns-in_err-unless-clause-demand3
returns-in_err-unless-clause-demand3 g c =
    let p = err_from_is_err_and c.from_residual-in_err-unless.result c.from_residual-in_err-unless.ensures.1 in
    let t = stopped _ _ 6 c.output_right.result c.unless.result c.output_right.ensures c.unless.ensures _ c.in_err-unless.was in
    let h = output-wrong g.W.Word.value g.W.Word.LIMIT c.args.n c.args.base.now c.args.out.now c.in_ok-geometry.ensures.accepted.0 c.in_ok-geometry.geometry.axes c.in_ok-geometry.ensures.accepted.1 (c.in_ok-base.ensures.right.0 refl) c.full_count.result c.full_count.ensures.0 t.0 _ t.1 in
    (handed-kept g.W.Word.LIMIT c.args.n (map g.W.Word.value c.args.base.now) (map g.W.Word.value c.args.out.now) c.from_residual-in_err-unless.result _ _ (p.1 ∙ ap Err p.2) h).1.1.0

pub returns-in_err-judged-clause-reply : goal.returns-in_err-judged-clause-reply
returns-in_err-judged-clause-reply g c =
    let p = err_from_is_err_and c.from_residual-in_err-judged.result c.from_residual-in_err-judged.ensures.1 in
    let h = record-wrong g.W.Word.value g.W.Word.LIMIT c.args.n c.args.base.now c.args.out.now c.in_ok-geometry.ensures.accepted.0 c.in_ok-geometry.geometry.axes c.in_ok-geometry.ensures.accepted.1 (c.in_ok-base.ensures.right.0 refl) c.full_count.result c.full_count.ensures.0 (passed _ _ 6 c.output_right.result c.unless.result c.output_right.ensures c.unless.ensures _ c.in_ok-unless.was) c.in_ok-base.base.geometry.axes c.in_ok-base.ensures.accepted.1 c.in_ok-base.base.words.now c.in_ok-base.ensures.accepted.0 _ c.in_err-judged.ensures.refused in
    (handed-kept g.W.Word.LIMIT c.args.n (map g.W.Word.value c.args.base.now) (map g.W.Word.value c.args.out.now) c.from_residual-in_err-judged.result _ _ (p.1 ∙ ap Err p.2) h).0

pub returns-in_err-judged-clause-words : goal.returns-in_err-judged-clause-words
returns-in_err-judged-clause-words g c =
    let p = err_from_is_err_and c.from_residual-in_err-judged.result c.from_residual-in_err-judged.ensures.1 in
    let h = record-wrong g.W.Word.value g.W.Word.LIMIT c.args.n c.args.base.now c.args.out.now c.in_ok-geometry.ensures.accepted.0 c.in_ok-geometry.geometry.axes c.in_ok-geometry.ensures.accepted.1 (c.in_ok-base.ensures.right.0 refl) c.full_count.result c.full_count.ensures.0 (passed _ _ 6 c.output_right.result c.unless.result c.output_right.ensures c.unless.ensures _ c.in_ok-unless.was) c.in_ok-base.base.geometry.axes c.in_ok-base.ensures.accepted.1 c.in_ok-base.base.words.now c.in_ok-base.ensures.accepted.0 _ c.in_err-judged.ensures.refused in
    (handed-kept g.W.Word.LIMIT c.args.n (map g.W.Word.value c.args.base.now) (map g.W.Word.value c.args.out.now) c.from_residual-in_err-judged.result _ _ (p.1 ∙ ap Err p.2) h).1.0

pub returns-in_err-judged-clause-demand3 : goal.returns-in_err-judged-clause-demand3
returns-in_err-judged-clause-demand3 g c =
    let p = err_from_is_err_and c.from_residual-in_err-judged.result c.from_residual-in_err-judged.ensures.1 in
    let h = record-wrong g.W.Word.value g.W.Word.LIMIT c.args.n c.args.base.now c.args.out.now c.in_ok-geometry.ensures.accepted.0 c.in_ok-geometry.geometry.axes c.in_ok-geometry.ensures.accepted.1 (c.in_ok-base.ensures.right.0 refl) c.full_count.result c.full_count.ensures.0 (passed _ _ 6 c.output_right.result c.unless.result c.output_right.ensures c.unless.ensures _ c.in_ok-unless.was) c.in_ok-base.base.geometry.axes c.in_ok-base.ensures.accepted.1 c.in_ok-base.base.words.now c.in_ok-base.ensures.accepted.0 _ c.in_err-judged.ensures.refused in
    (handed-kept g.W.Word.LIMIT c.args.n (map g.W.Word.value c.args.base.now) (map g.W.Word.value c.args.out.now) c.from_residual-in_err-judged.result _ _ (p.1 ∙ ap Err p.2) h).1.1.0

pub fill-requires : goal.fill-requires
fill-requires g c = output-formed g.W.Word.value g.W.Word.LIMIT c.args.n c.args.base.now c.args.out.now c.in_ok-geometry.ensures.accepted.0 c.in_ok-geometry.geometry.axes c.in_ok-geometry.ensures.accepted.1 (c.in_ok-base.ensures.right.0 refl) c.full_count.result c.full_count.ensures.0 (passed _ _ 6 c.output_right.result c.unless.result c.output_right.ensures c.unless.ensures _ c.in_ok-unless.was) c.in_ok-base.base.geometry.axes c.in_ok-base.ensures.accepted.1 c.in_ok-base.base.words.now c.in_ok-base.ensures.accepted.0 c.in_ok-judged.field-0.geometry.axes c.in_ok-judged.ensures.accepted.2 c.in_ok-judged.field-0.words.now c.in_ok-judged.ensures.accepted.1

pub returns-clause-reply : goal.returns-clause-reply
returns-clause-reply g c =
    let h = picture-made g.W.Word.value g.W.Word.LIMIT c.args.n c.args.base.now c.args.out.now c.in_ok-geometry.ensures.accepted.0 c.in_ok-geometry.geometry.axes c.in_ok-geometry.ensures.accepted.1 (c.in_ok-base.ensures.right.0 refl) c.full_count.result c.full_count.ensures.0 (passed _ _ 6 c.output_right.result c.unless.result c.output_right.ensures c.unless.ensures _ c.in_ok-unless.was) c.in_ok-base.base.geometry.axes c.in_ok-base.ensures.accepted.1 c.in_ok-base.base.words.now c.in_ok-base.ensures.accepted.0 c.in_ok-judged.field-0.geometry.axes c.in_ok-judged.ensures.accepted.2 c.in_ok-judged.field-0.words.now c.in_ok-judged.ensures.accepted.1 c.in_ok-judged.ensures.accepted.0 c.fill.result (map g.W.Word.value c.fill.new.out) c.fill.ensures.counts c.fill.ensures.words in
    (handed-kept g.W.Word.LIMIT c.args.n (map g.W.Word.value c.args.base.now) (map g.W.Word.value c.args.out.now) (Ok c.fill.result) _ _ refl h).0

pub returns-clause-words : goal.returns-clause-words
returns-clause-words g c =
    let h = picture-made g.W.Word.value g.W.Word.LIMIT c.args.n c.args.base.now c.args.out.now c.in_ok-geometry.ensures.accepted.0 c.in_ok-geometry.geometry.axes c.in_ok-geometry.ensures.accepted.1 (c.in_ok-base.ensures.right.0 refl) c.full_count.result c.full_count.ensures.0 (passed _ _ 6 c.output_right.result c.unless.result c.output_right.ensures c.unless.ensures _ c.in_ok-unless.was) c.in_ok-base.base.geometry.axes c.in_ok-base.ensures.accepted.1 c.in_ok-base.base.words.now c.in_ok-base.ensures.accepted.0 c.in_ok-judged.field-0.geometry.axes c.in_ok-judged.ensures.accepted.2 c.in_ok-judged.field-0.words.now c.in_ok-judged.ensures.accepted.1 c.in_ok-judged.ensures.accepted.0 c.fill.result (map g.W.Word.value c.fill.new.out) c.fill.ensures.counts c.fill.ensures.words in
    (handed-kept g.W.Word.LIMIT c.args.n (map g.W.Word.value c.args.base.now) (map g.W.Word.value c.args.out.now) (Ok c.fill.result) _ _ refl h).1.0

pub returns-clause-demand3 : goal.returns-clause-demand3
returns-clause-demand3 g c =
    let h = picture-made g.W.Word.value g.W.Word.LIMIT c.args.n c.args.base.now c.args.out.now c.in_ok-geometry.ensures.accepted.0 c.in_ok-geometry.geometry.axes c.in_ok-geometry.ensures.accepted.1 (c.in_ok-base.ensures.right.0 refl) c.full_count.result c.full_count.ensures.0 (passed _ _ 6 c.output_right.result c.unless.result c.output_right.ensures c.unless.ensures _ c.in_ok-unless.was) c.in_ok-base.base.geometry.axes c.in_ok-base.ensures.accepted.1 c.in_ok-base.base.words.now c.in_ok-base.ensures.accepted.0 c.in_ok-judged.field-0.geometry.axes c.in_ok-judged.ensures.accepted.2 c.in_ok-judged.field-0.words.now c.in_ok-judged.ensures.accepted.1 c.in_ok-judged.ensures.accepted.0 c.fill.result (map g.W.Word.value c.fill.new.out) c.fill.ensures.counts c.fill.ensures.words in
    (handed-kept g.W.Word.LIMIT c.args.n (map g.W.Word.value c.args.base.now) (map g.W.Word.value c.args.out.now) (Ok c.fill.result) _ _ refl h).1.1.0

pub returns-clause-singly : goal.returns-clause-singly
returns-clause-singly g c =
    let h = picture-made g.W.Word.value g.W.Word.LIMIT c.args.n c.args.base.now c.args.out.now c.in_ok-geometry.ensures.accepted.0 c.in_ok-geometry.geometry.axes c.in_ok-geometry.ensures.accepted.1 (c.in_ok-base.ensures.right.0 refl) c.full_count.result c.full_count.ensures.0 (passed _ _ 6 c.output_right.result c.unless.result c.output_right.ensures c.unless.ensures _ c.in_ok-unless.was) c.in_ok-base.base.geometry.axes c.in_ok-base.ensures.accepted.1 c.in_ok-base.base.words.now c.in_ok-base.ensures.accepted.0 c.in_ok-judged.field-0.geometry.axes c.in_ok-judged.ensures.accepted.2 c.in_ok-judged.field-0.words.now c.in_ok-judged.ensures.accepted.1 c.in_ok-judged.ensures.accepted.0 c.fill.result (map g.W.Word.value c.fill.new.out) c.fill.ensures.counts c.fill.ensures.words in
    (handed-kept g.W.Word.LIMIT c.args.n (map g.W.Word.value c.args.base.now) (map g.W.Word.value c.args.out.now) (Ok c.fill.result) _ _ refl h).1.1.1
