use Rattle.grammar.proofs.Reading.{handed_on}
use Rattle.grammar.proofs.WholeText.{walked-bad, walked-note, walked-note-bad, walked-record, walked-record-bad, lines-kept, lines_stored}
use Rattle.grammar.proofs.Patterns.{record-ends}
use borrow.Author.Rules.{rules}
use lib.Seq.{sets}
use lib.ListN.{take}
use native.Mathlib.Omega.{arith}
use mathlib.Core.Path.{◌≡◌, refl, ap, ◌∙◌}
use Prim.Native.Nat.{ℕ, ◌-◌, ◌+◌, ◌*◌}
use Rattle.sync_read.proofs.record_lines.Goals.{else-n-lt-RECORDS, then-n-lt-RECORDS}
use Rattle.sync_read.proofs.record_lines.Goals as goal

pub returns-then-first-ne40-clause-read : goal.returns-then-first-ne40-clause-read
returns-then-first-ne40-clause-read c =
    let k = c.loop-first.invariant.1 in
    let h = rw k at c.in-Ok.ensures.1 in
    (refl, walked-bad _ _ c.loop-first.t.at c.loop-first.n c.loop-first.own c.loop-first.invariant.2 (rw k at c.in-Ok.ensures.0) (λ b. c.if-first-ne40.true (cc (h, b))))

pub returns-in_err-byte-clause-read : goal.returns-in_err-byte-clause-read
returns-in_err-byte-clause-read c =
    let k = c.loop-first.invariant.1 in
    let h = rw k at c.in-Ok.ensures.1 in
    let l = rw k at c.in-Ok.ensures.0 in
    let m = rw k at c.in_err-byte.ensures.0 in
    rw (handed_on c.from_residual.ensures.1, c.in_err-byte.ensures.1)
    (refl, walked-record-bad _ _ c.loop-first.t.at c.loop-first.n c.loop-first.own c.loop-first.invariant.2 l (cc (h, c.if-first-ne40.false)) (λ q b. omega arith) _ (record-ends _ (c.loop-first.t.at + 1) (omega (arith, l)) m))

pub loop-first-preserved-in_ok-note : goal.loop-first-preserved-in_ok-note
loop-first-preserved-in_ok-note c =
    let k = c.loop-first.invariant.1 in
    let h = rw k at c.in-Ok.ensures.1 in
    let j = rw k at c.in_ok-byte.ensures.1 in
    (c.loop-first.invariant.0, rw k at c.note.ensures.kept, walked-note _ _ c.loop-first.t.at c.loop-first.n c.loop-first.own c.loop-first.invariant.2 (rw k at c.in-Ok.ensures.0) (cc (h, c.if-first-ne40.false)) (rw k at c.in_ok-byte.ensures.0) (cc (j, c.if-branch-eq110.true)) _ (rw k at c.in_ok-note.ensures.read))

pub returns-in_err-note-clause-read : goal.returns-in_err-note-clause-read
returns-in_err-note-clause-read c =
    let k = c.loop-first.invariant.1 in
    let h = rw k at c.in-Ok.ensures.1 in
    let j = rw k at c.in_ok-byte.ensures.1 in
    rw (handed_on c.from_residual-in_err-note.ensures.1)
    (refl, walked-note-bad _ _ c.loop-first.t.at c.loop-first.n c.loop-first.own c.loop-first.invariant.2 (rw k at c.in-Ok.ensures.0) (cc (h, c.if-first-ne40.false)) (rw k at c.in_ok-byte.ensures.0) (cc (j, c.if-branch-eq110.true)) _ (rw k at c.in_err-note.ensures.read))

pub loop-first-preserved : goal.loop-first-preserved
loop-first-preserved c =
    let k = c.loop-first.invariant.1 in
    let h = rw k at c.in-Ok.ensures.1 in
    let j = rw k at c.in_ok-byte.ensures.1 in
    (search rules, rw k at c.record_line.ensures.kept, walked-record _ _ c.loop-first.t.at c.loop-first.n c.loop-first.own c.loop-first.invariant.2 (rw k at c.in-Ok.ensures.0) (cc (h, c.if-first-ne40.false)) (λ m b. c.if-branch-eq110.false (cc (j, b))) c.if-n-lt-RECORDS.from _ _ (omega (arith, c.loop-first.invariant.0)) (elim c.if-n-lt-RECORDS.branch [ then-n-lt-RECORDS w ↦ λ q. omega arith | else-n-lt-RECORDS w ↦ λ q. absurd (omega arith) ]) (rw k at c.in_ok-record_line.ensures.read))

pub returns-in_err-record_line-clause-read : goal.returns-in_err-record_line-clause-read
returns-in_err-record_line-clause-read c =
    let k = c.loop-first.invariant.1 in
    let h = rw k at c.in-Ok.ensures.1 in
    let j = rw k at c.in_ok-byte.ensures.1 in
    let b = rw k at c.in_err-record_line.ensures.read in
    rw (handed_on c.from_residual-in_err-record_line.ensures.1)
    (refl, walked-record-bad _ _ c.loop-first.t.at c.loop-first.n c.loop-first.own c.loop-first.invariant.2 (rw k at c.in-Ok.ensures.0) (cc (h, c.if-first-ne40.false)) (λ m b. c.if-branch-eq110.false (cc (j, b))) _ b.1)

pub returns-then-n-le-RECORDS-clause-read : goal.returns-then-n-le-RECORDS-clause-read
returns-then-n-le-RECORDS-clause-read c =
    let k = c.loop-first.invariant.1 in
    let q : 78 * c.loop-first.n - 0 ≡ 78 * c.loop-first.n = omega arith in
    lines_stored _ _ c.loop-first.n c.loop-first.own c.args.words.now _ c.loop-first.t.at c.loop-first.invariant.2 (rw k at c.in_default.ensures.0) c.if-n-le-RECORDS.true c.requires (c.put_words.ensures ∙ ap (λ (j : ℕ). sets c.args.words.now 0 (take j c.loop-first.own)) q)

pub returns-else-n-le-RECORDS-clause-read : goal.returns-else-n-le-RECORDS-clause-read
returns-else-n-le-RECORDS-clause-read c =
    let k = c.loop-first.invariant.1 in
    lines-kept _ _ c.loop-first.n c.loop-first.own c.args.words.now c.loop-first.t.at c.loop-first.invariant.2 (rw k at c.in_default.ensures.0) c.if-n-le-RECORDS.false
