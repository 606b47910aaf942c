use Rattle.grammar.proofs.Reading.{handed_on}
use Rattle.std.specs.Prelude.{Ok as At, Err as Bad}
use Rattle.definitions.specs.Text.{Item}
use Rattle.grammar.specs.Readers.{Stands}
use Rattle.grammar.proofs.Items.{letter-of, item-ends, item-bad, item-shallow, item-word, item-number, item-no-number, item-list, rest-ends, rest-bad, rest-close, rest-space, items-item, items-bad}
use native.Mathlib.Omega.{arith}
use Rattle.sync_notes.proofs.+item_list.Goals as goal

pub item-returns-in_err-byte-clause-read : goal.item-returns-in_err-byte-clause-read
item-returns-in_err-byte-clause-read t c = rw (handed_on c.from_residual.ensures.1, c.in_err-byte.ensures.1) (item-ends _ _ c.args.depth c.args.t.now.within c.in_err-byte.ensures.0)

pub item-returns-then-depth-eq0-clause-read : goal.item-returns-then-depth-eq0-clause-read
item-returns-then-depth-eq0-clause-read t c =
    item-shallow _ _ c.args.depth c.args.t.now.within _ (rw c.in_ok-byte.ensures.1 at c.class_of-c.ensures) c.in-Open.is c.if-depth-eq0.true

pub item-returns-in-Alpha-clause-read : goal.item-returns-in-Alpha-clause-read
item-returns-in-Alpha-clause-read t c =
    item-word _ _ c.args.depth c.in_ok-byte.ensures.0 (letter-of _ _ (rw c.in_ok-byte.ensures.1 at c.class_of-c.ensures) c.in-Alpha.is) _ c.letters.ensures.read

pub item-returns-in_ok-number-in-Zero-clause-read : goal.item-returns-in_ok-number-in-Zero-clause-read
item-returns-in_ok-number-in-Zero-clause-read t c =
    item-number _ _ c.args.depth c.in_ok-byte.ensures.0 _ (rw c.in_ok-byte.ensures.1 at c.class_of-c.ensures) c.in-Zero.is c.in_ok-number-in-Zero.field-0 _ c.in_ok-number-in-Zero.ensures.read

pub item-returns-in_err-number-in-Zero-clause-read : goal.item-returns-in_err-number-in-Zero-clause-read
item-returns-in_err-number-in-Zero-clause-read t c =
    rw (handed_on c.from_residual-in_err-number-in-Zero.ensures.1)
    (item-no-number _ _ c.args.depth c.in_ok-byte.ensures.0 _ (rw c.in_ok-byte.ensures.1 at c.class_of-c.ensures) c.in-Zero.is _ c.in_err-number-in-Zero.ensures.read)

pub item-returns-else-depth-eq0-clause-read : goal.item-returns-else-depth-eq0-clause-read
item-returns-else-depth-eq0-clause-read t c =
    item-list _ _ c.args.depth c.in_ok-byte.ensures.0 _ (rw c.in_ok-byte.ensures.1 at c.class_of-c.ensures) c.in-Open.is c.if-depth-eq0.false _ c.list.ensures.read

pub item-returns-in_default-clause-read : goal.item-returns-in_default-clause-read
item-returns-in_default-clause-read t c =
    item-bad _ _ c.args.depth c.args.t.now.within _ (rw c.in_ok-byte.ensures.1 at c.class_of-c.ensures) c.in_default.not-Alpha c.in_default.not-Zero c.in_default.not-Nonzero c.in_default.not-Dash c.in_default.not-Open

pub list-returns-in_err-item-clause-read : goal.list-returns-in_err-item-clause-read
list-returns-in_err-item-clause-read t c =
    let k = c.loop-t.invariant.1 in
    rw (handed_on c.from_residual.ensures.1) (c.loop-t.invariant.2 (Bad _) (items-bad _ c.loop-t.t.at c.args.depth _ (rw k at c.in_err-item.ensures.read)))

pub list-returns-in_err-byte-clause-read : goal.list-returns-in_err-byte-clause-read
list-returns-in_err-byte-clause-read t c =
    let k = c.loop-t.invariant.1 in
    let m = rw k at c.item.ensures.kept in
    let list-round : Stands (Item c.args.depth) c.args.t.now.bytes.now c.loop-t.t.at c.item.new.t.at = rw k at c.in_ok-item.ensures.read in
    rw (handed_on c.from_residual-in_err-byte.ensures.1, c.in_err-byte.ensures.1)
    (c.loop-t.invariant.2 (Bad _) (items-item _ c.loop-t.t.at c.args.depth _ list-round (Bad _) (rest-ends _ _ c.args.depth list-round.stops.within (rw m at c.in_err-byte.ensures.0))))

pub list-returns-in-Close-clause-read : goal.list-returns-in-Close-clause-read
list-returns-in-Close-clause-read t c =
    let k = c.loop-t.invariant.1 in
    let m = rw k at c.item.ensures.kept in
    let list-round : Stands (Item c.args.depth) c.args.t.now.bytes.now c.loop-t.t.at c.item.new.t.at = rw k at c.in_ok-item.ensures.read in
    c.loop-t.invariant.2 (At _)
    (items-item _ c.loop-t.t.at c.args.depth _ list-round (At _) (rest-close _ _ c.args.depth (rw m at c.in_ok-byte.ensures.0) _ (rw (c.in_ok-byte.ensures.1, m) at c.class_of-c.ensures) c.in-Close.is))

pub list-loop-t-preserved : goal.list-loop-t-preserved
list-loop-t-preserved t c =
    let k = c.loop-t.invariant.1 in
    let m = rw k at c.item.ensures.kept in
    let list-round : Stands (Item c.args.depth) c.args.t.now.bytes.now c.loop-t.t.at c.item.new.t.at = rw k at c.in_ok-item.ensures.read in (
      omega (arith, c.loop-t.invariant.0, list-round.stops.up),
      m,
      λ r h. c.loop-t.invariant.2 r
          (items-item _ c.loop-t.t.at c.args.depth _ list-round r (rest-space _ _ c.args.depth (rw m at c.in_ok-byte.ensures.0) _ (rw (c.in_ok-byte.ensures.1, m) at c.class_of-c.ensures) c.in-Space.is r h)),
    )

pub list-returns-in_default : goal.list-returns-in_default
list-returns-in_default t c =
    let k = c.loop-t.invariant.1 in
    let m = rw k at c.item.ensures.kept in
    let list-round : Stands (Item c.args.depth) c.args.t.now.bytes.now c.loop-t.t.at c.item.new.t.at = rw k at c.in_ok-item.ensures.read in
    record {
      read = c.loop-t.invariant.2 (Bad _)
          (items-item _ c.loop-t.t.at c.args.depth _ list-round (Bad _) (rest-bad _ _ c.args.depth list-round.stops.within _ (rw (c.in_ok-byte.ensures.1, m) at c.class_of-c.ensures) c.in_default.not-Close c.in_default.not-Space));
      kept = m;
    }
