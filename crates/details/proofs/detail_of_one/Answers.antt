use mathlib.Core.Path.{sym, ◌∙◌}
use native.Mathlib.Omega.{arith}
use Rattle.definitions.proofs.Choices.{both_true}
use Rattle.details.specs.Bits.{four_masked}
use Rattle.details.proofs.Masks.{detail-own}
use Rattle.details.proofs.Reading.{detail-one, halves_in}
use Rattle.details.proofs.detail_of_one.Goals as goal

pub reads_detail-bits-requires : goal.reads_detail-bits-requires
reads_detail-bits-requires g c = (c.args.r.now.readable 0 (omega arith), c.args.r.now.low)

pub returns-then-is_own : goal.returns-then-is_own
returns-then-is_own g c =
    let own = both_true _ _ c.if-is_own.true in (
      detail-own _ c.reads_detail-bits.ensures.1 c.args.h c.args.v (sym c.is_own.ensures ∙ own.0) (sym c.is_own-2.ensures ∙ own.1)
          ∙ ((λ t. four_masked (c.reads_detail-bits.ensures.0 t) (c.requires.4 t) (c.requires.5 t)) ∙ detail-one _ _ _ _ c.requires.0 c.requires.1 c.requires.2 c.requires.3),
      c.reads_detail-bits.ensures.1,
    )

pub detail_in-requires : goal.detail_in-requires
detail_in-requires g c =
    let h = halves_in _ c.requires.0 c.requires.2 in
    let v = halves_in _ c.requires.1 c.requires.3 in
    rw (c.requires.4, c.requires.5) (h.0, h.1, v.0, v.1)

pub returns : goal.returns
returns g c = (c.detail_in.ensures.0 ∙ ((λ t. four_masked (c.reads_detail-bits.ensures.0 t) (c.requires.4 t) (c.requires.5 t)) ∙ detail-one _ _ _ _ c.requires.0 c.requires.1 c.requires.2 c.requires.3), c.detail_in.ensures.1)
