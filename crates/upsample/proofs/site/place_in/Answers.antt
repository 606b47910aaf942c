use Prim.Native.Nat.{ℕ, ◌*◌}
use mathlib.Core.Bool.{◌&&◌}
use mathlib.Core.Path.{◌≡◌, sym, ap, ◌∙◌}
use lib.Dec.{eqb}
use lib.IntN.{nat_abs}
use mir.Facts.{to_z-of_z}
use mir.Syntax.{w32}
use mir.Val.{of_z, to_z}
use Rattle.std.proofs.lemmas.Result.{err_from_is_err_and}
use Rattle.std.specs.Prelude.{Err, Ok}
use Rattle.common.proofs.Unless.{unless_passed, unless_refused}
use Rattle.definitions.specs.Geometry.{full_size}
use Rattle.definitions.specs.Raster.{base_count}
use Rattle.definitions.specs.Record.{record_words}
use Rattle.definitions.specs.Refusals.{within_axis}
use Rattle.upsample.proofs.Staging.{place-there, wrong-base, wrong-output, wrong-position, right-position}
use Rattle.upsample.proofs.site.place_in.Goals as goal

pub returns-in_err-unless-clause-refused : goal.returns-in_err-unless-clause-refused
returns-in_err-unless-clause-refused c = λ base out p q.
    let e = err_from_is_err_and c.from_residual.result c.from_residual.ensures.1 in
    let u = unless_refused c.base_right.result 5 _ (sym c.unless.ensures ∙ c.in_err-unless.was) in
    rw (e.1, e.2) (sym (wrong-base c.args.g.axes base c.args.column c.args.row out (ap (λ (l : ℕ). eqb l (record_words * base_count c.args.g.axes)) p ∙ (sym c.base_right.ensures ∙ u.0))) ∙ ap Err (sym u.1))

pub returns-in_err-unless-2-clause-refused : goal.returns-in_err-unless-2-clause-refused
returns-in_err-unless-2-clause-refused c = λ base out p q.
    let e = err_from_is_err_and c.from_residual-in_err-unless-2.result c.from_residual-in_err-unless-2.ensures.1 in
    let b = unless_passed c.base_right.result 5 (sym c.unless.ensures ∙ c.in_ok-unless.was) in
    let u = unless_refused c.output_right.result 6 _ (sym c.unless-2.ensures ∙ c.in_err-unless-2.was) in
    rw (e.1, e.2) (sym (wrong-output c.args.g.axes base c.args.column c.args.row out (ap (λ (l : ℕ). eqb l (record_words * base_count c.args.g.axes)) p ∙ (sym c.base_right.ensures ∙ b)) (ap (λ (l : ℕ). eqb l (record_words * 1)) q ∙ (sym c.output_right.ensures ∙ u.0))) ∙ ap Err (sym u.1))

pub returns-in_err-unless-3-clause-refused : goal.returns-in_err-unless-3-clause-refused
returns-in_err-unless-3-clause-refused c = λ base out p q.
    let e = err_from_is_err_and c.from_residual-in_err-unless-3.result c.from_residual-in_err-unless-3.ensures.1 in
    let b = unless_passed c.base_right.result 5 (sym c.unless.ensures ∙ c.in_ok-unless.was) in
    let o = unless_passed c.output_right.result 6 (sym c.unless-2.ensures ∙ c.in_ok-unless-2.was) in
    let u = unless_refused c.position_right.result 7 _ (sym c.unless-3.ensures ∙ c.in_err-unless-3.was) in
    let both : c.position_right.result ≡ (within_axis (full_size c.args.g.axes.horizontal) c.args.column && within_axis (full_size c.args.g.axes.vertical) c.args.row) = rw (to_z-of_z c.ranges.column, to_z-of_z c.ranges.row) at c.position_right.ensures in
    rw (e.1, e.2) (sym (wrong-position c.args.g.axes base c.args.column c.args.row out (ap (λ (l : ℕ). eqb l (record_words * base_count c.args.g.axes)) p ∙ (sym c.base_right.ensures ∙ b)) (ap (λ (l : ℕ). eqb l (record_words * 1)) q ∙ (sym c.output_right.ensures ∙ o)) (sym both ∙ u.0)) ∙ ap Err (sym u.1))

pub overflow_cast-result : goal.overflow_cast-result
overflow_cast-result c =
    let u = unless_passed c.position_right.result 7 (sym c.unless-3.ensures ∙ c.in_ok-unless-3.was) in
    let t = place-there c.args.g.axes c.args.g.accepted (to_z w32 (of_z w32 c.args.column)) (to_z w32 (of_z w32 c.args.row)) (sym c.position_right.ensures ∙ u) in
    (t.column-natural, t.column-fits)

pub overflow_cast-result-2 : goal.overflow_cast-result-2
overflow_cast-result-2 c =
    let u = unless_passed c.position_right.result 7 (sym c.unless-3.ensures ∙ c.in_ok-unless-3.was) in
    let t = place-there c.args.g.axes c.args.g.accepted (to_z w32 (of_z w32 c.args.column)) (to_z w32 (of_z w32 c.args.row)) (sym c.position_right.ensures ∙ u) in
    (t.row_natural, t.row_fits)

pub invariant_of-result : goal.invariant_of-result
invariant_of-result c =
    let u = unless_passed c.position_right.result 7 (sym c.unless-3.ensures ∙ c.in_ok-unless-3.was) in
    let t = place-there c.args.g.axes c.args.g.accepted (to_z w32 (of_z w32 c.args.column)) (to_z w32 (of_z w32 c.args.row)) (sym c.position_right.ensures ∙ u) in
    record { within = (t.column-low, t.row_low) }

pub returns-clause-placed : goal.returns-clause-placed
returns-clause-placed c = λ base out p q.
    let b = unless_passed c.base_right.result 5 (sym c.unless.ensures ∙ c.in_ok-unless.was) in
    let o = unless_passed c.output_right.result 6 (sym c.unless-2.ensures ∙ c.in_ok-unless-2.was) in
    let u = unless_passed c.position_right.result 7 (sym c.unless-3.ensures ∙ c.in_ok-unless-3.was) in
    let both : c.position_right.result ≡ (within_axis (full_size c.args.g.axes.horizontal) c.args.column && within_axis (full_size c.args.g.axes.vertical) c.args.row) = rw (to_z-of_z c.ranges.column, to_z-of_z c.ranges.row) at c.position_right.ensures in
    let x = to_z-of_z c.ranges.column in
    let y = to_z-of_z c.ranges.row in
    sym (right-position c.args.g.axes base c.args.column c.args.row out (ap (λ (l : ℕ). eqb l (record_words * base_count c.args.g.axes)) p ∙ (sym c.base_right.ensures ∙ b)) (ap (λ (l : ℕ). eqb l (record_words * 1)) q ∙ (sym c.output_right.ensures ∙ o)) (sym both ∙ u))
    ∙ (λ i. Ok (record { axes = c.args.g.axes; column = nat_abs (sym x i); row = nat_abs (sym y i) }))
