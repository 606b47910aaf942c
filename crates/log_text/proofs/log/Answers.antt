use native.Mathlib.Omega.{arith}
use mathlib.Core.Path.{refl, ap, ◌∙◌}
use Rattle.std.specs.Prelude.{Ok}
use lib.ListN.{length}
use Rattle.definitions.specs.Log.{too_few}
use Rattle.log_text.proofs.Stages.{answered, empty-kept, empty-logged, lines-logged, refusal-kept, refusal-logged}
use Rattle.log_text.proofs.log.Goals as goal

pub returns-then-out-lt-LOG_BYTES-clause-answer : goal.returns-then-out-lt-LOG_BYTES-clause-answer
returns-then-out-lt-LOG_BYTES-clause-answer c = rw c.refused.ensures ((answered (too_few c.if-out-lt-LOG_BYTES.true)).0)

pub refused_line-requires : goal.refused_line-requires
refused_line-requires c =
    let k = refusal-kept c.text_lines.ensures.reads refl c.text_lines.ensures.given c.in-Err.is in
    let same = ap length k.same in
    (k.low.0, k.low.1, omega arith)

pub returns-in-Ok-None-clause-answer : goal.returns-in-Ok-None-clause-answer
returns-in-Ok-None-clause-answer c = (answered (empty-logged c.if-out-lt-LOG_BYTES.false c.text_lines.ensures.reads (empty-kept c.text_lines.ensures.reading c.text_lines.ensures.given (c.in-Ok-None.is ∙ ap Ok c.in-Ok-None.field-0-is)) c.no_picture_line.ensures)).0

pub returns-in-Ok-None-clause-demand2 : goal.returns-in-Ok-None-clause-demand2
returns-in-Ok-None-clause-demand2 c = (answered (empty-logged c.if-out-lt-LOG_BYTES.false c.text_lines.ensures.reads (empty-kept c.text_lines.ensures.reading c.text_lines.ensures.given (c.in-Ok-None.is ∙ ap Ok c.in-Ok-None.field-0-is)) c.no_picture_line.ensures)).1

pub returns-in-Ok-Some-clause-answer : goal.returns-in-Ok-Some-clause-answer
returns-in-Ok-Some-clause-answer c = (answered (lines-logged c.if-out-lt-LOG_BYTES.false c.text_lines.ensures.reads refl c.text_lines.ensures.given (c.in-Ok-Some.is ∙ ap Ok c.in-Ok-Some.field-0-is))).0

pub returns-in-Ok-Some-clause-demand2 : goal.returns-in-Ok-Some-clause-demand2
returns-in-Ok-Some-clause-demand2 c = (answered (lines-logged c.if-out-lt-LOG_BYTES.false c.text_lines.ensures.reads refl c.text_lines.ensures.given (c.in-Ok-Some.is ∙ ap Ok c.in-Ok-Some.field-0-is))).1

pub returns-in-Err-clause-answer : goal.returns-in-Err-clause-answer
returns-in-Err-clause-answer c = (answered (refusal-logged c.if-out-lt-LOG_BYTES.false (refusal-kept c.text_lines.ensures.reads refl c.text_lines.ensures.given c.in-Err.is) c.refused_line.ensures)).0

pub returns-in-Err-clause-demand2 : goal.returns-in-Err-clause-demand2
returns-in-Err-clause-demand2 c = (answered (refusal-logged c.if-out-lt-LOG_BYTES.false (refusal-kept c.text_lines.ensures.reads refl c.text_lines.ensures.given c.in-Err.is) c.refused_line.ensures)).1
