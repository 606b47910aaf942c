use Prim.Native.Nat.{ℕ, ◌*◌}
use mathlib.Core.Bool.{true, false}
use mathlib.Core.Path.{◌≡◌, refl, ap, ◌∙◌}
use native.Mathlib.Omega.{arith}
use Rattle.std.proofs.lemmas.Result.{err_from_is_err_and}
use Rattle.definitions.specs.Raster.{base_count}
use Rattle.definitions.specs.Record.{record_words}
use Rattle.log_text.proofs.Stages.{wrong-numbers, wrong-count, wrong-record, right-records, judged-same, put-same}
use Rattle.log_text.proofs.read_lines.Goals as goal

wrong-end : false ≡ true → ⊥
wrong-end x = let z : ◌≡◌ {A = ℕ} 0 1 = cc in omega arith

pub returns-in_err-g : goal.returns-in_err-g
returns-in_err-g c =
    let p = err_from_is_err_and c.from_residual.result c.from_residual.ensures.1 in
    rw (p.1, p.2) (wrong-numbers c.args.t.numbers c.args.t.lines c.args.base.now c.args.out.now _ c.in_err-g.ensures.refused)

pub returns-in_err-base : goal.returns-in_err-base
returns-in_err-base c =
    let p = err_from_is_err_and c.from_residual-in_err-base.result c.from_residual-in_err-base.ensures.1 in
    let g = c.in_ok-g.ensures.accepted in
    rw (p.1, p.2) (wrong-count c.args.t.numbers c.args.t.lines c.args.base.now c.args.out.now c.in_ok-g.g.axes g.0 g.1
    (λ e. wrong-end (c.in_err-base.ensures.right.1 (c.requires.0 ∙ ap (λ (k : ℕ). record_words * k) e))) _ c.in_err-base.ensures.refused)

pub returns-in_err-formed : goal.returns-in_err-formed
returns-in_err-formed c =
    let p = err_from_is_err_and c.from_residual-in_err-formed.result c.from_residual-in_err-formed.ensures.1 in
    let g = c.in_ok-g.ensures.accepted in
    let b = c.in_ok-base.ensures.accepted in
    let long = c.in_ok-base.ensures.right.0 refl in
    let right : c.args.t.lines ≡ base_count c.in_ok-g.g.axes = omega (arith, long, c.requires.0) in
    rw (p.1, p.2) (wrong-record c.args.t.numbers c.args.t.lines c.args.base.now c.args.out.now c.in_ok-g.g.axes g.0 g.1 right _ (judged-same b.0 b.1 c.in_err-formed.ensures.refused))

pub returns : goal.returns
returns c =
    let g = c.in_ok-g.ensures.accepted in
    let b = c.in_ok-base.ensures.accepted in
    let f = c.in_ok-formed.ensures.accepted in
    let long = c.in_ok-base.ensures.right.0 refl in
    let right : c.args.t.lines ≡ base_count c.in_ok-g.g.axes = omega (arith, long, c.requires.0) in
    right-records c.args.t.numbers c.args.t.lines c.args.base.now c.args.out.now c.in_ok-g.g.axes g.0 g.1 right (judged-same b.0 b.1 f.0) c.in_ok-g.g.accepted c.requires.1 _ _
    (put-same (f.1 ∙ b.0) (f.2 ∙ b.1) c.picture_lines.ensures)
