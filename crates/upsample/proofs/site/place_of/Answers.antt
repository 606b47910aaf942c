use mathlib.Core.Path.{◌≡◌, sym, subst, ◌∙◌}
use mir.Facts.{to_z-of_z}
use mir.Syntax.{w32}
use mir.Val.{of_z, to_z}
use Rattle.std.specs.Prelude.{Err, Ok, IfErr, IfOk}
use Rattle.definitions.specs.declared.Refusal.{Refusal}
use Rattle.upsample.specs.declared.place.Place.{Place}
use Rattle.std.proofs.lemmas.Result.{err_from_is_err_and}
use Rattle.upsample.specs.Sited.{Placing, placed, placing_in, placing_of}
use Rattle.upsample.proofs.Staging.{right-geometry, wrong-geometry}
use Rattle.upsample.proofs.site.place_of.Goals as goal

pub returns-in_err-new-clause-refused : goal.returns-in_err-new-clause-refused
returns-in_err-new-clause-refused c = λ base out p q.
    let e = err_from_is_err_and c.from_residual.result c.from_residual.ensures.1 in
    rw (e.1, e.2) (sym (wrong-geometry c.args.n base c.args.column c.args.row out _ c.in_err-new.ensures.refused))

pub returns-clause-placed : goal.returns-clause-placed
returns-clause-placed c = λ base out p q.
    let k = c.in_ok-new.ensures.accepted in
    let x = to_z-of_z c.ranges.column in
    let y = to_z-of_z c.ranges.row in
    let e : placing_in c.in_ok-new.field-0.axes base (to_z w32 (of_z w32 c.args.column)) (to_z w32 (of_z w32 c.args.row)) out ≡ placing_of c.args.n base c.args.column c.args.row out =
    (λ t. placing_in (k.1 t) base (x t) (y t) out) ∙ right-geometry c.args.n base c.args.column c.args.row out k.0 in
    subst (λ (z : Placing). IfOk c.place_in.result (λ (a : Place). z ≡ Ok (placed a))) e (c.place_in.ensures.placed base out p q)

pub returns-clause-refused : goal.returns-clause-refused
returns-clause-refused c = λ base out p q.
    let k = c.in_ok-new.ensures.accepted in
    let x = to_z-of_z c.ranges.column in
    let y = to_z-of_z c.ranges.row in
    let e : placing_in c.in_ok-new.field-0.axes base (to_z w32 (of_z w32 c.args.column)) (to_z w32 (of_z w32 c.args.row)) out ≡ placing_of c.args.n base c.args.column c.args.row out =
    (λ t. placing_in (k.1 t) base (x t) (y t) out) ∙ right-geometry c.args.n base c.args.column c.args.row out k.0 in
    subst (λ (z : Placing). IfErr c.place_in.result (λ (r : Refusal). z ≡ Err r)) e (c.place_in.ensures.refused base out p q)
