use Rattle.grammar.proofs.Reading.{handed_on}
use Rattle.grammar.proofs.Items.{rest-ends, rest-bad, rest-close, rest-space}
use mathlib.Core.Path.{refl}
use Rattle.sync_notes.proofs.rest_of.Goals as goal

pub returns-in_err-byte-clause-read : goal.returns-in_err-byte-clause-read
returns-in_err-byte-clause-read c = rw (handed_on c.from_residual.ensures.1, c.in_err-byte.ensures.1) (rest-ends _ _ c.args.depth c.args.t.now.within c.in_err-byte.ensures.0)

pub returns-in-Close-clause-read : goal.returns-in-Close-clause-read
returns-in-Close-clause-read c = rest-close _ _ c.args.depth c.in_ok-byte.ensures.0 _ (rw c.in_ok-byte.ensures.1 at c.class_of-c.ensures) c.in-Close.is

pub returns-in-Space-clause-read : goal.returns-in-Space-clause-read
returns-in-Space-clause-read c = rest-space _ _ c.args.depth c.in_ok-byte.ensures.0 _ (rw c.in_ok-byte.ensures.1 at c.class_of-c.ensures) c.in-Space.is _ c.list.ensures.read

pub returns-in_default : goal.returns-in_default
returns-in_default c =
    record { read = rest-bad _ _ c.args.depth c.args.t.now.within _ (rw c.in_ok-byte.ensures.1 at c.class_of-c.ensures) c.in_default.not-Close c.in_default.not-Space; kept = refl }
