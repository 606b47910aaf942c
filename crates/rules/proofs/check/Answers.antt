use mathlib.Core.List.{map}
use mathlib.Core.Path.{sym, ◌∙◌}
use borrow.Author.Rules.{rules}
use native.Mathlib.Omega.{arith}
use Rattle.records.proofs.Searches.{search-none, search-more}
use Rattle.records.proofs.Verdicts.{verdict-end}
use Rattle.rules.specs.Searching.{pieces_right}
use Rattle.rules.proofs.Parts.{detail-by}
use Rattle.rules.proofs.Searched.{found_of, found-head, found-5, found-6, found-7, found-next, number_of, number-none}
use Rattle.rules.proofs.check.Goals as goal

pub broken_at-found-requires : goal.broken_at-found-requires
broken_at-found-requires g c = (search rules, (number_of _ _ (sym c.in-Some.is ∙ c.head_rule.ensures)).1)

pub loop-q-init : goal.loop-q-init
loop-q-init g c = (c.records.invariant.0, search-none (pieces_right (map g.W.Word.value c.record_at-words.result.now)))

pub loop-q-preserved : goal.loop-q-preserved
loop-q-preserved g c =
    (c.loop-q.invariant.0, search-more (pieces_right (map g.W.Word.value c.record_at-words.result.now)) c.loop-q.q c.loop-q.invariant.1 (sym c.quadrant_pieces.ensures ∙ c.if-not-quadrant_pieces.false))

pub records-preserved : goal.records-preserved
records-preserved g c = (
  c.loop-q.invariant.0,
  sym (found-next c.args.limit (map g.W.Word.value c.args.base.now) c.records.a c.args.to c.records-test.true (map g.W.Word.value c.record_at-words.result.now) c.record_at-words.ensures
      (number-none _ (sym c.in_default.is ∙ c.head_rule.ensures))
      (sym c.vectors_right.ensures ∙ c.if-not-vectors_right.false)
      c.loop-q.q c.loop-q.auto.q-end c.loop-q-test.false c.loop-q.invariant.1
      (detail-by _ c.detail_right.ensures ∙ c.if-not-detail_right.false))
      ∙ c.records.invariant.1,
)

pub returns-after-records : goal.returns-after-records
returns-after-records g c = c.records.invariant.0 ∙ (verdict-end c.args.limit (map g.W.Word.value c.args.base.now) c.records.a c.args.to c.records-test.false ∙ c.records.invariant.1)

pub returns-in-Some : goal.returns-in-Some
returns-in-Some g c =
    let n = number_of _ _ (sym c.in-Some.is ∙ c.head_rule.ensures) in
    found_of c.args.limit (map g.W.Word.value c.args.base.now) c.records.a c.args.to c.args.from c.in-Some.rule c.broken_at-found.ensures
    (found-head c.args.limit (map g.W.Word.value c.args.base.now) c.records.a c.args.to c.records-test.true (map g.W.Word.value c.record_at-words.result.now) c.record_at-words.ensures
    c.in-Some.rule n.0 (λ z. omega (arith, z, n.1)))
    c.records.invariant.1

pub returns-then-not-vectors_right : goal.returns-then-not-vectors_right
returns-then-not-vectors_right g c =
    found_of c.args.limit (map g.W.Word.value c.args.base.now) c.records.a c.args.to c.args.from 5 c.broken_at-found-then-not-vectors_right.ensures
    (found-5 c.args.limit (map g.W.Word.value c.args.base.now) c.records.a c.args.to c.records-test.true (map g.W.Word.value c.record_at-words.result.now) c.record_at-words.ensures
    (number-none _ (sym c.in_default.is ∙ c.head_rule.ensures)) (sym c.vectors_right.ensures ∙ c.if-not-vectors_right.true))
    c.records.invariant.1

pub returns-then-not-quadrant_pieces : goal.returns-then-not-quadrant_pieces
returns-then-not-quadrant_pieces g c =
    found_of c.args.limit (map g.W.Word.value c.args.base.now) c.records.a c.args.to c.args.from 6 c.broken_at-found-then-not-quadrant_pieces.ensures
    (found-6 c.args.limit (map g.W.Word.value c.args.base.now) c.records.a c.args.to c.records-test.true (map g.W.Word.value c.record_at-words.result.now) c.record_at-words.ensures
    (number-none _ (sym c.in_default.is ∙ c.head_rule.ensures)) (sym c.vectors_right.ensures ∙ c.if-not-vectors_right.false)
    c.loop-q.q c.loop-q-test.true (sym c.quadrant_pieces.ensures ∙ c.if-not-quadrant_pieces.true))
    c.records.invariant.1

pub returns-then-not-detail_right : goal.returns-then-not-detail_right
returns-then-not-detail_right g c =
    found_of c.args.limit (map g.W.Word.value c.args.base.now) c.records.a c.args.to c.args.from 7 c.broken_at-found-then-not-detail_right.ensures
    (found-7 c.args.limit (map g.W.Word.value c.args.base.now) c.records.a c.args.to c.records-test.true (map g.W.Word.value c.record_at-words.result.now) c.record_at-words.ensures
    (number-none _ (sym c.in_default.is ∙ c.head_rule.ensures)) (sym c.vectors_right.ensures ∙ c.if-not-vectors_right.false)
    c.loop-q.q c.loop-q.auto.q-end c.loop-q-test.false c.loop-q.invariant.1 (detail-by _ c.detail_right.ensures ∙ c.if-not-detail_right.true))
    c.records.invariant.1
