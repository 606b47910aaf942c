use mathlib.Core.Path.{sym, ap, ◌∙◌}
use lib.IntN.{pos}
use lib.ListN.{length-replicate}
use Rattle.std.specs.Prelude.{Ok, Err}
use Rattle.std.proofs.lemmas.Result.{err_from_is_err_and}
use Rattle.log_text.specs.Given.{LinesGiven, nothing_found, kept}
use Rattle.log_text.proofs.Stages.{ReadWords, words-read, refused-read, empty-read}
use Rattle.log_text.proofs.text_lines.Goals as goal

pub returns-in_err-read_text : goal.returns-in_err-read_text
returns-in_err-read_text c =
    let p = err_from_is_err_and c.from_residual.result c.from_residual.ensures.1 in
    let l : LinesGiven c.args.text.now c.args.out.now (Err c.in_err-read_text.field-0.0) c.args.out.now =
    record { reading = _; reads = refused-read (length-replicate 7722 (pos 0)) c.read_text.ensures.answer c.in_err-read_text.was; given = kept } in
    rw (p.1, p.2) l

pub slice_bounds-words-end : goal.slice_bounds-words-end
slice_bounds-words-end c =
    let w : ReadWords c.args.text.now c.in-Some.t.numbers c.in-Some.t.lines c.read_text.new.words = words-read (length-replicate 7722 (pos 0)) c.read_text.ensures.answer (c.in_ok-read_text.was ∙ ap Ok c.in-Some.is) in
    w.within

pub slice_bounds-read_lines-end : goal.slice_bounds-read_lines-end
slice_bounds-read_lines-end c =
    let w : ReadWords c.args.text.now c.in-Some.t.numbers c.in-Some.t.lines c.read_text.new.words = words-read (length-replicate 7722 (pos 0)) c.read_text.ensures.answer (c.in_ok-read_text.was ∙ ap Ok c.in-Some.is) in
    sym w.long

pub read_lines-requires : goal.read_lines-requires
read_lines-requires c =
    let w : ReadWords c.args.text.now c.in-Some.t.numbers c.in-Some.t.lines c.read_text.new.words = words-read (length-replicate 7722 (pos 0)) c.read_text.ensures.answer (c.in_ok-read_text.was ∙ ap Ok c.in-Some.is) in
    (w.long, c.requires)

pub returns-in-None : goal.returns-in-None
returns-in-None c = record { reading = _; reads = empty-read (length-replicate 7722 (pos 0)) c.read_text.ensures.answer (c.in_ok-read_text.was ∙ ap Ok c.in-None.is); given = nothing_found }

pub returns-in-Some : goal.returns-in-Some
returns-in-Some c =
    let w : ReadWords c.args.text.now c.in-Some.t.numbers c.in-Some.t.lines c.read_text.new.words = words-read (length-replicate 7722 (pos 0)) c.read_text.ensures.answer (c.in_ok-read_text.was ∙ ap Ok c.in-Some.is) in
    record { reading = _; reads = w.reads; given = rw w.finding c.read_lines.ensures }
