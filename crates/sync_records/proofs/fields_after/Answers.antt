use Rattle.grammar.proofs.Reading.{handed_on}
use Rattle.grammar.proofs.Patterns.{fields-no-word, fields-after}
use Rattle.sync_records.proofs.fields_after.Goals as goal

pub returns-in_err-word_at-clause-read : goal.returns-in_err-word_at-clause-read
returns-in_err-word_at-clause-read c = rw (handed_on c.from_residual.ensures.1) (fields-no-word c.args.w.now c.args.n _ _ c.args.out.now c.args.from _ c.in_err-word_at.ensures.read)

pub returns-clause-read : goal.returns-clause-read
returns-clause-read c =
    let k = c.word_at.ensures.kept in
    fields-after c.args.w.now c.args.n _ _ c.args.out.now c.args.from _ c.in_ok-word_at.ensures.read _ _ (rw k at c.store_fields.ensures.read)
