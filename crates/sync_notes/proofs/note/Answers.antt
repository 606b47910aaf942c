use Rattle.grammar.proofs.Reading.{handed_on}
use Rattle.grammar.proofs.Items.{note-read, note-rest-bad, note-first-bad}
use Rattle.sync_notes.proofs.note.Goals as goal

pub returns-in_err-word_at-clause-read : goal.returns-in_err-word_at-clause-read
returns-in_err-word_at-clause-read c = rw (handed_on c.from_residual.ensures.1) (note-first-bad _ _ _ c.in_err-word_at.ensures.read)

pub returns-in_err-rest_of-clause-read : goal.returns-in_err-rest_of-clause-read
returns-in_err-rest_of-clause-read c =
    let k = c.word_at.ensures.kept in
    rw (handed_on c.from_residual-in_err-rest_of.ensures.1) (note-rest-bad _ _ _ c.in_ok-word_at.ensures.read _ (rw k at c.in_err-rest_of.ensures.read))

pub returns-clause-read : goal.returns-clause-read
returns-clause-read c =
    let k = c.word_at.ensures.kept in
    let m = rw k at c.rest_of.ensures.kept in
    note-read _ _ _ c.in_ok-word_at.ensures.read _ (rw k at c.in_ok-rest_of.ensures.read) _ (rw m at c.word_at-2.ensures.read)
