use mathlib.Core.List.{map}
use mathlib.Core.Path.{sym, ◌∙◌}
use native.Mathlib.Omega.{arith}
use Rattle.rules.proofs.Parts.{types-by, references_by}
use Rattle.rules.proofs.Searched.{head_1, head_2, head_3, head_4, head-none, some_number, no_number}
use Rattle.rules.proofs.head_rule.Goals as goal

pub returns-then-not-all_within : goal.returns-then-not-all_within
returns-then-not-all_within g c = some_number _ 1 (head_1 (map g.W.Word.value c.args.words.now) (types-by (map g.W.Word.value c.args.words.now) c.all_within.ensures c.types.ensures ∙ c.if-not-all_within.true)) (λ z. omega arith)

pub returns-then-not-sub_types_right : goal.returns-then-not-sub_types_right
returns-then-not-sub_types_right g c =
    some_number _ 2 (head_2 (map g.W.Word.value c.args.words.now) (types-by (map g.W.Word.value c.args.words.now) c.all_within.ensures c.types.ensures ∙ c.if-not-all_within.false) (sym c.sub_types_right.ensures ∙ c.if-not-sub_types_right.true)) (λ z. omega arith)

pub returns-then-not-all_within-2 : goal.returns-then-not-all_within-2
returns-then-not-all_within-2 g c =
    some_number _ 3
    (head_3 (map g.W.Word.value c.args.words.now) (types-by (map g.W.Word.value c.args.words.now) c.all_within.ensures c.types.ensures ∙ c.if-not-all_within.false) (sym c.sub_types_right.ensures ∙ c.if-not-sub_types_right.false) (references_by (map g.W.Word.value c.args.words.now) c.all_within-2.ensures c.references.ensures ∙ c.if-not-all_within-2.true)) (λ z. omega arith)

pub returns-then-not-usage_right : goal.returns-then-not-usage_right
returns-then-not-usage_right g c =
    some_number _ 4
    (head_4 (map g.W.Word.value c.args.words.now) (types-by (map g.W.Word.value c.args.words.now) c.all_within.ensures c.types.ensures ∙ c.if-not-all_within.false) (sym c.sub_types_right.ensures ∙ c.if-not-sub_types_right.false) (references_by (map g.W.Word.value c.args.words.now) c.all_within-2.ensures c.references.ensures ∙ c.if-not-all_within-2.false)
    (sym c.usage_right.ensures ∙ c.if-not-usage_right.true)) (λ z. omega arith)

pub returns : goal.returns
returns g c =
    no_number _
    (head-none (map g.W.Word.value c.args.words.now) (types-by (map g.W.Word.value c.args.words.now) c.all_within.ensures c.types.ensures ∙ c.if-not-all_within.false) (sym c.sub_types_right.ensures ∙ c.if-not-sub_types_right.false) (references_by (map g.W.Word.value c.args.words.now) c.all_within-2.ensures c.references.ensures ∙ c.if-not-all_within-2.false)
    (sym c.usage_right.ensures ∙ c.if-not-usage_right.false))
