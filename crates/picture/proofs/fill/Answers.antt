use Prim.Native.Nat.{◌+◌, ◌*◌, ◌/◌, ◌<◌, ◌≤◌}
use mathlib.Core.Path.{◌≡◌, refl, ap, ◌∙◌}
use mathlib.Core.List.{map}
use native.Mathlib.Omega.{arith}
use borrow.Author.Rules.{rules, scaled_fits≤}
use lib.ListN.{get_or, length, length-map}
use Rattle.definitions.specs.declared.Axis.{Axis}
use Rattle.definitions.specs.Calls.{made_at}
use Rattle.definitions.specs.Geometry.{full_size, macroblocks}
use Rattle.definitions.specs.Raster.{full_count}
use Rattle.common.proofs.Counted.{counts-low}
use Rattle.common.proofs.Sizes.{full-small}
use Rattle.macroblock.specs.Made.{read_of}
use Rattle.picture.specs.Reads.{no_read}
use Rattle.bases.proofs.Rows.{address_below, rows_all}
use Rattle.picture.proofs.Filling.{all_made, read_none, ready, room, so_far_at, so_far_more, so_far_none, sort-made, written-made}
use Rattle.picture.proofs.fill.Goals as goal

pub read_across-requires : goal.read_across-requires
read_across-requires g c = read_none _ c.read_nowhere-columns.result c.read_nowhere-columns.ensures

pub loop-row-init : goal.loop-row-init
loop-row-init g c = so_far_at _ _ 0 _ (omega arith) (so_far_none _ _ _ _ refl)

pub offset_bounds-out-from : goal.offset_bounds-out-from
offset_bounds-out-from g c =
    let axes = c.args.base.geometry.axes in
    let below = address_below axes (c.axes-axes.result.horizontal.full.0 / 16) (c.axes-axes.result.vertical.full.0 / 16) c.loop-row.row (λ i. macroblocks (full_size (c.axes-axes.ensures i).horizontal)) (λ i. macroblocks (full_size (c.axes-axes.ensures i).vertical)) c.loop-column.column c.loop-row-test.true c.loop-column-test.true in
    let l : 78 * (c.loop-row.row * (c.axes-axes.result.horizontal.full.0 / 16) + c.loop-column.column) ≤ length c.loop-column.out = omega (arith, below, c.loop-column.auto.out, c.loop-row.auto.out, c.requires) in
    search (rules, scaled_fits≤)

pub make-sort-requires : goal.make-sort-requires
make-sort-requires g c =
    let axes = c.args.base.geometry.axes in
    let wide : c.axes-axes.result.horizontal.full.0 / 16 ≡ macroblocks (full_size axes.horizontal) = λ i. macroblocks (full_size (c.axes-axes.ensures i).horizontal) in
    let below : c.loop-row.row * (c.axes-axes.result.horizontal.full.0 / 16) + c.loop-column.column < full_count axes = address_below axes _ (c.axes-axes.result.vertical.full.0 / 16) c.loop-row.row wide (λ i. macroblocks (full_size (c.axes-axes.ensures i).vertical)) c.loop-column.column c.loop-row-test.true c.loop-column-test.true in (
      ready axes (map g.W.Word.value c.args.base.words.now) c.args.base.formed _ c.loop-row.row c.loop-column.column wide c.loop-column-test.true c.fixed_of-fixed.result c.fixed_of-fixed.ensures
          (get_or c.read_across.new.reads c.loop-column.column no_read) c.axis_read-v.result (c.read_across.ensures.each _ (omega (arith, wide, c.loop-column-test.true))) (c.axis_read-v.ensures ∙ ap (λ (a : Axis). read_of a c.loop-row.row) c.vertical.ensures),
      room _ _ c.loop-column.out below (c.loop-column.auto.out ∙ (c.loop-row.auto.out ∙ c.requires)),
    )

pub count_sort-counts-requires : goal.count_sort-counts-requires
count_sort-counts-requires g c =
    let axes = c.args.base.geometry.axes in
    let wide : c.axes-axes.result.horizontal.full.0 / 16 ≡ macroblocks (full_size axes.horizontal) = λ i. macroblocks (full_size (c.axes-axes.ensures i).horizontal) in
    let below : c.loop-row.row * (c.axes-axes.result.horizontal.full.0 / 16) + c.loop-column.column < full_count axes = address_below axes _ (c.axes-axes.result.vertical.full.0 / 16) c.loop-row.row wide (λ i. macroblocks (full_size (c.axes-axes.ensures i).vertical)) c.loop-column.column c.loop-row-test.true c.loop-column-test.true in
    omega (arith, counts-low (made_at axes (map g.W.Word.value c.args.base.words.now)) _ c.loop-column.counts c.loop-column.invariant.counted, full-small axes c.args.base.geometry.accepted, below)

pub loop-column-preserved : goal.loop-column-preserved
loop-column-preserved g c =
    let axes = c.args.base.geometry.axes in
    let base = map g.W.Word.value c.args.base.words.now in
    let wide : c.axes-axes.result.horizontal.full.0 / 16 ≡ macroblocks (full_size axes.horizontal) = λ i. macroblocks (full_size (c.axes-axes.ensures i).horizontal) in
    let h = get_or c.read_across.new.reads c.loop-column.column no_read in
    let p = c.read_across.ensures.each _ (omega (arith, wide, c.loop-column-test.true)) in
    let q = c.axis_read-v.ensures ∙ ap (λ (a : Axis). read_of a c.loop-row.row) c.vertical.ensures in
    let sort = sort-made axes base c.args.base.formed _ c.loop-row.row c.loop-column.column wide c.loop-column-test.true c.fixed_of-fixed.result c.fixed_of-fixed.ensures h c.axis_read-v.result p q in
    let written = written-made axes base c.args.base.formed _ c.loop-row.row c.loop-column.column wide c.loop-column-test.true c.fixed_of-fixed.result c.fixed_of-fixed.ensures h c.axis_read-v.result p q in
    so_far_at axes base (c.loop-row.row * (c.axes-axes.result.horizontal.full.0 / 16) + c.loop-column.column + 1) _ (omega arith)
    (so_far_more axes base g.W.Word.value c.args.out.now c.loop-column.out c.make-sort.new.out c.loop-column.counts c.count_sort-counts.result _ _ _ refl (omega arith) c.loop-column.invariant
    (c.make-sort.ensures.written ∙ written) (c.count_sort-counts.ensures _ (c.make-sort.ensures.sort ∙ sort)))

pub returns-clause-counts : goal.returns-clause-counts
returns-clause-counts g c =
    let axes = c.args.base.geometry.axes in
    let last : c.loop-row.row ≡ c.axes-axes.result.vertical.full.0 / 16 = omega (arith, c.loop-row.auto.row-end, c.loop-row-test.false) in
    let all = rows_all axes (c.axes-axes.result.horizontal.full.0 / 16) (c.axes-axes.result.vertical.full.0 / 16) c.loop-row.row (λ i. macroblocks (full_size (c.axes-axes.ensures i).horizontal)) (λ i. macroblocks (full_size (c.axes-axes.ensures i).vertical)) last in
    (all_made axes (map g.W.Word.value c.args.base.words.now) (map g.W.Word.value c.args.out.now) (map g.W.Word.value c.loop-row.out) c.loop-row.counts _ (length-map c.args.out.now g.W.Word.value ∙ c.requires) all c.loop-row.invariant).0

pub returns-clause-words : goal.returns-clause-words
returns-clause-words g c =
    let axes = c.args.base.geometry.axes in
    let last : c.loop-row.row ≡ c.axes-axes.result.vertical.full.0 / 16 = omega (arith, c.loop-row.auto.row-end, c.loop-row-test.false) in
    let all = rows_all axes (c.axes-axes.result.horizontal.full.0 / 16) (c.axes-axes.result.vertical.full.0 / 16) c.loop-row.row (λ i. macroblocks (full_size (c.axes-axes.ensures i).horizontal)) (λ i. macroblocks (full_size (c.axes-axes.ensures i).vertical)) last in
    (all_made axes (map g.W.Word.value c.args.base.words.now) (map g.W.Word.value c.args.out.now) (map g.W.Word.value c.loop-row.out) c.loop-row.counts _ (length-map c.args.out.now g.W.Word.value ∙ c.requires) all c.loop-row.invariant).1
