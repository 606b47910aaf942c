use Prim.Native.Nat.{ℕ, ◌+◌, ◌*◌, ◌/◌}
use mathlib.Core.Path.{◌≡◌, refl, sym, ap, ◌∙◌}
use native.Mathlib.Omega.{arith}
use borrow.Author.Rules.{rules}
use Rattle.definitions.specs.declared.Axis.{Axis}
use Rattle.definitions.specs.Calls.{made_at}
use Rattle.definitions.specs.Geometry.{full_size, macroblocks}
use Rattle.definitions.specs.Log.{picture_lines}
use Rattle.common.proofs.Counted.{counts-low}
use Rattle.common.proofs.Sizes.{full-small}
use Rattle.log_lines.specs.Put.{Put}
use Rattle.macroblock.specs.Made.{read_of}
use Rattle.bases.proofs.Rows.{address_below, rows_all}
use Rattle.log_picture.proofs.Growing.{answer-made, last-fits, line-fits, line-last, ready, so_far_at, so_far_more, so_far_none}
use Rattle.log_picture.proofs.picture_lines.Goals as goal

pub loop-row-init : goal.loop-row-init
loop-row-init c =
    (so_far_at c.args.base.geometry.axes c.args.base.words.now 0 _ (omega arith) (rw (c.new-log.ensures.none.0, c.new-log.ensures.none.1) (so_far_none c.args.base.geometry.axes c.args.base.words.now c.args.out.now _ refl)), refl)

pub answer_at-given-requires : goal.answer_at-given-requires
answer_at-given-requires c =
    let axes = c.args.base.geometry.axes in
    let wide : c.axes-axes.result.horizontal.full.0 / 16 ≡ macroblocks (full_size axes.horizontal) = λ i. macroblocks (full_size (c.axes-axes.ensures i).horizontal) in (
      omega (arith, wide, c.args.base.geometry.accepted.horizontal.full-high, c.loop-column-test.true),
      ready axes c.args.base.words.now c.args.base.formed _ c.loop-row.row c.loop-column.column wide c.loop-column-test.true c.fixed_of-fixed.result c.fixed_of-fixed.ensures c.axis_read-v.result (c.axis_read-v.ensures ∙ ap (λ (a : Axis). read_of a c.loop-row.row) c.vertical.ensures),
    )

pub count-counts-requires : goal.count-counts-requires
count-counts-requires c =
    let axes = c.args.base.geometry.axes in
    let below = address_below axes (c.axes-axes.result.horizontal.full.0 / 16) (c.axes-axes.result.vertical.full.0 / 16) c.loop-row.row (λ i. macroblocks (full_size (c.axes-axes.ensures i).horizontal)) (λ i. macroblocks (full_size (c.axes-axes.ensures i).vertical)) c.loop-column.column c.loop-row-test.true c.loop-column-test.true in
    omega (arith, counts-low (made_at axes c.args.base.words.now) _ c.loop-column.counts c.loop-column.invariant.0.counted, full-small axes c.args.base.geometry.accepted, below)

pub macroblock_line-requires : goal.macroblock_line-requires
macroblock_line-requires c =
    let axes = c.args.base.geometry.axes in
    let accepted = c.args.base.geometry.accepted in
    let wide : c.axes-axes.result.horizontal.full.0 / 16 ≡ macroblocks (full_size axes.horizontal) = λ i. macroblocks (full_size (c.axes-axes.ensures i).horizontal) in
    let high : c.axes-axes.result.vertical.full.0 / 16 ≡ macroblocks (full_size axes.vertical) = λ i. macroblocks (full_size (c.axes-axes.ensures i).vertical) in
    let below = address_below axes _ (c.axes-axes.result.vertical.full.0 / 16) c.loop-row.row wide high c.loop-column.column c.loop-row-test.true c.loop-column-test.true in
    (omega (arith, wide, accepted.horizontal.full-high, c.loop-column-test.true), omega (arith, high, accepted.vertical.full-high, c.loop-row-test.true), line-fits axes c.args.base.words.now _ c.loop-column.invariant.0 accepted below c.requires)

pub loop-column-preserved : goal.loop-column-preserved
loop-column-preserved c =
    let axes = c.args.base.geometry.axes in
    let words = c.args.base.words.now in
    let wide : c.axes-axes.result.horizontal.full.0 / 16 ≡ macroblocks (full_size axes.horizontal) = λ i. macroblocks (full_size (c.axes-axes.ensures i).horizontal) in
    let made = answer-made axes words c.args.base.formed _ c.loop-row.row c.loop-column.column wide c.loop-column-test.true c.fixed_of-fixed.result c.fixed_of-fixed.ensures c.axis_read-v.result (c.axis_read-v.ensures ∙ ap (λ (a : Axis). read_of a c.loop-row.row) c.vertical.ensures) in (
      so_far_at axes words (c.loop-row.row * (c.axes-axes.result.horizontal.full.0 / 16) + c.loop-column.column + 1) _ (omega arith)
          (so_far_more axes words _ c.loop-column.invariant.0 c.loop-column.column c.loop-row.row _ (omega (arith, wide, c.loop-column-test.true)) (ap (λ (x : ℕ). c.loop-row.row * x + c.loop-column.column) (sym wide)) (c.answer_at-given.ensures ∙ made) c.macroblock_line.ensures.bytes c.count-counts.ensures),
      search rules,
    )

pub sync_line-requires : goal.sync_line-requires
sync_line-requires c =
    let axes = c.args.base.geometry.axes in
    let last : c.loop-row.row ≡ c.axes-axes.result.vertical.full.0 / 16 = omega (arith, c.loop-row.auto.row-end, c.loop-row-test.false) in
    let all = rows_all axes (c.axes-axes.result.horizontal.full.0 / 16) (c.axes-axes.result.vertical.full.0 / 16) c.loop-row.row (λ i. macroblocks (full_size (c.axes-axes.ensures i).horizontal)) (λ i. macroblocks (full_size (c.axes-axes.ensures i).vertical)) last in
    let k = counts-low (made_at axes c.args.base.words.now) _ c.loop-row.counts c.loop-row.invariant.0.counted in
    let f = full-small axes c.args.base.geometry.accepted in
    (c.full_count.ensures.1, omega (arith, k, f, all), omega (arith, k, f, all), omega (arith, k, f, all), last-fits axes c.args.base.words.now _ c.loop-row.invariant.0 c.args.base.geometry.accepted all c.requires)

pub returns : goal.returns
returns c =
    let axes = c.args.base.geometry.axes in
    let last : c.loop-row.row ≡ c.axes-axes.result.vertical.full.0 / 16 = omega (arith, c.loop-row.auto.row-end, c.loop-row-test.false) in
    let all = rows_all axes (c.axes-axes.result.horizontal.full.0 / 16) (c.axes-axes.result.vertical.full.0 / 16) c.loop-row.row (λ i. macroblocks (full_size (c.axes-axes.ensures i).horizontal)) (λ i. macroblocks (full_size (c.axes-axes.ensures i).vertical)) last in
    let p : Put c.args.out.now 0 (picture_lines axes c.args.base.words.now) c.sync_line.new.log.out.now c.sync_line.new.log.at =
    line-last axes c.args.base.words.now _ c.loop-row.invariant.0 c.full_count.result all c.full_count.ensures.0 c.sync_line.ensures.bytes in
    search rules
