use Rattle.grammar.proofs.Reading.{handed_on}
use Rattle.grammar.proofs.Patterns.{record_of, record-bad, record-ends}
use Rattle.definitions.specs.Text.{intra, whole, mb}
use mathlib.Core.Path.{refl, sym, ◌∙◌}
use native.Mathlib.Omega.{arith}
use Rattle.sync_records.proofs.record_line.Goals as goal

pub returns-in_err-byte-clause-read : goal.returns-in_err-byte-clause-read
returns-in_err-byte-clause-read c = rw (handed_on c.from_residual.ensures.1, c.in_err-byte.ensures.1) (refl, record-ends _ _ c.args.t.now.within c.in_err-byte.ensures.0)

pub returns-in-105-clause-read : goal.returns-in-105-clause-read
returns-in-105-clause-read c = record_of _ _ c.in_ok-byte.ensures.0 intra (sym c.in_ok-byte.ensures.1 ∙ c.in-105.is) c.args.out.now c.args.from _ _ c.intra_tail.ensures.read

pub returns-in-119-clause-read : goal.returns-in-119-clause-read
returns-in-119-clause-read c = record_of _ _ c.in_ok-byte.ensures.0 whole (sym c.in_ok-byte.ensures.1 ∙ c.in-119.is) c.args.out.now c.args.from _ _ c.whole_tail.ensures.read

pub returns-in-109-clause-read : goal.returns-in-109-clause-read
returns-in-109-clause-read c = record_of _ _ c.in_ok-byte.ensures.0 mb (sym c.in_ok-byte.ensures.1 ∙ c.in-109.is) c.args.out.now c.args.from _ _ c.mb_tail.ensures.read

pub returns-in_default-clause-read : goal.returns-in_default-clause-read
returns-in_default-clause-read c = let b = c.in_ok-byte.ensures.1 in (refl, record-bad _ _ c.args.t.now.within (λ e. omega arith) (λ e. omega arith) (λ e. omega arith))
