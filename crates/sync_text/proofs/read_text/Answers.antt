use native.Mathlib.Omega.{arith}
use Prim.Native.Nat.{◌≤◌}
use lib.ListN.{length}
use Rattle.definitions.specs.Text.{no_bytes, too_long, broken, wrong_words, no_picture, refused}
use Rattle.grammar.proofs.Reading.{handed_on}
use Rattle.sync_text.proofs.Reply.{not-equal, too-large, are-equal, at-most, answered, some_bytes, too_many_lem, text-read}
use Rattle.sync_text.proofs.read_text.Goals as goal

pub parse-requires : goal.parse-requires
parse-requires c = are-equal _ _ _ c.in_ok-unless.ensures

pub overflow_cast-count : goal.overflow_cast-count
overflow_cast-count c =
    let k : c.in-Ok.lines ≤ 99 = at-most _ _ _ c.in_ok-unless-in-Ok.ensures in
    record { fits = omega (arith, k) }

pub overflow_cast-p : goal.overflow_cast-p
overflow_cast-p c =
    let k : length c.args.bytes.now ≤ 65536 = at-most _ _ _ c.in_ok-unless-2.ensures in
    record { fits = omega (arith, k, c.in-Err.ensures.1.within) }

pub returns-in_err-unless-clause-answer : goal.returns-in_err-unless-clause-answer
returns-in_err-unless-clause-answer c =
    let k = not-equal _ _ _ c.in_err-unless.ensures in
    rw (handed_on c.from_residual.ensures.1, k.1) (answered (wrong_words k.0)).0

pub returns-in_err-unless-clause-demand2 : goal.returns-in_err-unless-clause-demand2
returns-in_err-unless-clause-demand2 c =
    let k = not-equal _ _ _ c.in_err-unless.ensures in
    rw (handed_on c.from_residual.ensures.1, k.1) (answered (wrong_words k.0)).1

pub returns-then-bytes-eq0-clause-answer : goal.returns-then-bytes-eq0-clause-answer
returns-then-bytes-eq0-clause-answer c =
    (answered (no_picture (are-equal _ _ _ c.in_ok-unless.ensures) (no_bytes (omega (arith, c.if-bytes-eq0.true))))).0

pub returns-then-bytes-eq0-clause-demand2 : goal.returns-then-bytes-eq0-clause-demand2
returns-then-bytes-eq0-clause-demand2 c =
    (answered (no_picture (are-equal _ _ _ c.in_ok-unless.ensures) (no_bytes (omega (arith, c.if-bytes-eq0.true))))).1

pub returns-in_err-unless-2-clause-answer : goal.returns-in_err-unless-2-clause-answer
returns-in_err-unless-2-clause-answer c =
    let k = too-large _ _ _ c.in_err-unless-2.ensures in
    rw (handed_on c.from_residual-in_err-unless-2.ensures.1, k.1) (answered (refused (are-equal _ _ _ c.in_ok-unless.ensures) (too_long k.0))).0

pub returns-in_err-unless-2-clause-demand2 : goal.returns-in_err-unless-2-clause-demand2
returns-in_err-unless-2-clause-demand2 c =
    let k = too-large _ _ _ c.in_err-unless-2.ensures in
    rw (handed_on c.from_residual-in_err-unless-2.ensures.1, k.1) (answered (refused (are-equal _ _ _ c.in_ok-unless.ensures) (too_long k.0))).1

pub returns-in_err-unless-in-Ok-clause-answer : goal.returns-in_err-unless-in-Ok-clause-answer
returns-in_err-unless-in-Ok-clause-answer c =
    let k = too-large _ _ _ c.in_err-unless-in-Ok.ensures in
    rw (handed_on c.from_residual-in_err-unless-in-Ok.ensures.1, k.1) (answered (too_many_lem c.args.bytes.now c.args.words.now _ _ _ (are-equal _ _ _ c.in_ok-unless.ensures) (at-most _ _ _ c.in_ok-unless-2.ensures) c.in-Ok.ensures k.0)).0

pub returns-in_err-unless-in-Ok-clause-demand2 : goal.returns-in_err-unless-in-Ok-clause-demand2
returns-in_err-unless-in-Ok-clause-demand2 c =
    let k = too-large _ _ _ c.in_err-unless-in-Ok.ensures in
    rw (handed_on c.from_residual-in_err-unless-in-Ok.ensures.1, k.1) (answered (too_many_lem c.args.bytes.now c.args.words.now _ _ _ (are-equal _ _ _ c.in_ok-unless.ensures) (at-most _ _ _ c.in_ok-unless-2.ensures) c.in-Ok.ensures k.0)).1

pub returns-in_ok-unless-in-Ok-clause-answer : goal.returns-in_ok-unless-in-Ok-clause-answer
returns-in_ok-unless-in-Ok-clause-answer c =
    (answered (text-read c.args.bytes.now c.args.words.now _ _ _ (are-equal _ _ _ c.in_ok-unless.ensures) (at-most _ _ _ c.in_ok-unless-2.ensures) c.in-Ok.ensures (at-most _ _ _ c.in_ok-unless-in-Ok.ensures))).0

pub returns-in_ok-unless-in-Ok-clause-demand2 : goal.returns-in_ok-unless-in-Ok-clause-demand2
returns-in_ok-unless-in-Ok-clause-demand2 c =
    (answered (text-read c.args.bytes.now c.args.words.now _ _ _ (are-equal _ _ _ c.in_ok-unless.ensures) (at-most _ _ _ c.in_ok-unless-2.ensures) c.in-Ok.ensures (at-most _ _ _ c.in_ok-unless-in-Ok.ensures))).1

pub returns-in-Err-clause-answer : goal.returns-in-Err-clause-answer
returns-in-Err-clause-answer c =
    let j = c.in-Err.ensures in
    rw (c.refused_at.ensures, j.0) ((answered (refused (are-equal _ _ _ c.in_ok-unless.ensures) (broken (some_bytes _ c.if-bytes-eq0.false) (at-most _ _ _ c.in_ok-unless-2.ensures) j.1))).0)
