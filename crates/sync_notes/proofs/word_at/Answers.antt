use lib.ListN.{drop, drop_of_length-le}
use mathlib.Core.Path.{◌≡◌, subst, sym}
use mathlib.Core.List.{List, []}
use Prim.Native.Nat.{ℕ}
use Rattle.std.specs.Prelude.{Ok as At, Err as Bad}
use Rattle.grammar.specs.Readers.{Exactly, Stands}
use Rattle.grammar.proofs.Reading.{handed_on}
use Rattle.grammar.proofs.Numerals.{exactly-none}
use Rattle.grammar.proofs.Items.{word_more, word-bad}
use native.Mathlib.Omega.{arith}
use Rattle.sync_notes.proofs.word_at.Goals as goal

pub returns-in_err-byte-clause-read : goal.returns-in_err-byte-clause-read
returns-in_err-byte-clause-read c =
    let k = c.loop-b.invariant.0 in
    let m = rw k at c.in_err-byte.ensures.0 in
    rw (handed_on c.from_residual.ensures.1, c.in_err-byte.ensures.1)
    (c.loop-b.invariant.1 (Bad _) (word-bad _ c.args.w.now c.loop-b.t.at c.loop-b.b-index c.loop-b-test.true (rw k at c.loop-b.t.within) (λ q e. omega arith)))

pub returns-then-branch-b-clause-read : goal.returns-then-branch-b-clause-read
returns-then-branch-b-clause-read c =
    let k = c.loop-b.invariant.0 in
    let h = rw k at c.in_ok-byte.ensures.1 in
    c.loop-b.invariant.1 (Bad _) (word-bad _ c.args.w.now c.loop-b.t.at c.loop-b.b-index c.loop-b-test.true (rw k at c.loop-b.t.within) (λ q e. c.if-branch-b.true (cc (h, e))))

pub loop-b-preserved : goal.loop-b-preserved
loop-b-preserved c =
    let k = c.loop-b.invariant.0 in
    let h = rw k at c.in_ok-byte.ensures.1 in
    (k, λ r m. c.loop-b.invariant.1 r (word_more _ c.args.w.now c.loop-b.t.at c.loop-b.b-index c.loop-b-test.true (rw k at c.in_ok-byte.ensures.0) (cc (h, c.if-branch-b.false)) r m))

pub returns-clause-read : goal.returns-clause-read
returns-clause-read c =
    let n : drop c.loop-b.b-index c.args.w.now ≡ [] = drop_of_length-le c.args.w.now (omega arith) in
    c.loop-b.invariant.1 (At _)
    (subst (λ (u : List ℕ). Stands (Exactly u) c.args.t.now.bytes.now c.loop-b.t.at c.loop-b.t.at) (sym n) (exactly-none _ c.loop-b.t.at (rw c.loop-b.invariant.0 at c.loop-b.t.within)))
