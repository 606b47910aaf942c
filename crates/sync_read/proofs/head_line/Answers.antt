use Prim.Native.Nat.{◌+◌}
use Rattle.grammar.specs.Readers.{NoteTail, Stands}
use Rattle.grammar.proofs.Reading.{handed_on}
use Rattle.grammar.proofs.WholeText.{head-bad, head-cut, head-line, head-note, head-note-bad}
use Rattle.std.specs.Prelude.{Err as Bad}
use native.Mathlib.Omega.{arith}
use Rattle.sync_read.proofs.head_line.Goals as goal

pub returns-in_err-byte-clause-read : goal.returns-in_err-byte-clause-read
returns-in_err-byte-clause-read c =
    let k = c.loop-t.invariant.2 in
    let m = rw k at c.in_err-byte.ensures.0 in
    rw (handed_on c.from_residual.ensures.1, c.in_err-byte.ensures.1)
    (c.loop-t.invariant.3 c.loop-t.out (Bad _) (c.loop-t.invariant.0, head-bad c.args.w.now _ c.loop-t.t.at (rw k at c.loop-t.t.within) (λ q b. omega arith)))

pub returns-then-branch-ne40-clause-read : goal.returns-then-branch-ne40-clause-read
returns-then-branch-ne40-clause-read c =
    let k = c.loop-t.invariant.2 in
    let h = rw k at c.in_ok-byte.ensures.1 in
    c.loop-t.invariant.3 c.loop-t.out (Bad _) (c.loop-t.invariant.0, head-bad c.args.w.now _ c.loop-t.t.at (rw k at c.loop-t.t.within) (λ q b. c.if-branch-ne40.true (cc (h, b))))

pub returns-in_err-byte-2-clause-read : goal.returns-in_err-byte-2-clause-read
returns-in_err-byte-2-clause-read c =
    let k = c.loop-t.invariant.2 in
    let h = rw k at c.in_ok-byte.ensures.1 in
    rw (handed_on c.from_residual-in_err-byte-2.ensures.1, c.in_err-byte-2.ensures.1)
    (c.loop-t.invariant.3 c.loop-t.out (Bad _)
    (c.loop-t.invariant.0, head-cut c.args.w.now _ c.loop-t.t.at c.requires.0 (rw k at c.in_ok-byte.ensures.0) (cc (h, c.if-branch-ne40.false)) (rw k at c.in_err-byte-2.ensures.0)))

pub returns-then-branch-ne110-clause-read : goal.returns-then-branch-ne110-clause-read
returns-then-branch-ne110-clause-read c =
    let k = c.loop-t.invariant.2 in
    let h = rw k at c.in_ok-byte.ensures.1 in
    let j = rw k at c.in_ok-byte-2.ensures.1 in
    c.loop-t.invariant.3 _ _
    (head-line c.args.w.now _ c.loop-t.t.at c.requires.0 (rw k at c.in_ok-byte.ensures.0) (cc (h, c.if-branch-ne40.false)) (rw k at c.in_ok-byte-2.ensures.0) (λ b. c.if-branch-ne110.true (cc (j, b))) c.args.out.now c.args.from _ _
    (rw (k, c.loop-t.invariant.0) at c.head_tail.ensures.read))

pub loop-t-preserved : goal.loop-t-preserved
loop-t-preserved c =
    let k = c.loop-t.invariant.2 in
    let h = rw k at c.in_ok-byte.ensures.1 in
    let j = rw k at c.in_ok-byte-2.ensures.1 in
    let v : Stands NoteTail c.args.t.now.bytes.now (c.loop-t.t.at + 1 + 1) c.note.new.t.at = rw k at c.in_ok-note.ensures.read in (
      c.loop-t.invariant.0,
      omega (arith, c.loop-t.invariant.1, v.stops.up),
      rw k at c.note.ensures.kept,
      λ new r g. c.loop-t.invariant.3 new r
          (head-note c.args.w.now _ c.loop-t.t.at c.requires.0 (rw k at c.in_ok-byte.ensures.0) (cc (h, c.if-branch-ne40.false)) (rw k at c.in_ok-byte-2.ensures.0) (cc (j, c.if-branch-ne110.false)) _ v c.args.out.now c.args.from new r g),
    )

pub returns-in_err-note-clause-read : goal.returns-in_err-note-clause-read
returns-in_err-note-clause-read c =
    let k = c.loop-t.invariant.2 in
    let h = rw k at c.in_ok-byte.ensures.1 in
    let j = rw k at c.in_ok-byte-2.ensures.1 in
    rw (handed_on c.from_residual-in_err-note.ensures.1)
    (c.loop-t.invariant.3 c.loop-t.out (Bad _)
    (c.loop-t.invariant.0, head-note-bad c.args.w.now _ c.loop-t.t.at c.requires.0 (rw k at c.in_ok-byte.ensures.0) (cc (h, c.if-branch-ne40.false)) (rw k at c.in_ok-byte-2.ensures.0) (cc (j, c.if-branch-ne110.false)) _ (rw k at c.in_err-note.ensures.read)))
