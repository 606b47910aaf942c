use mathlib.Core.Path.{◌∙◌}
use Rattle.details.specs.Bits.{four_masked}
use Rattle.details.proofs.Reading.{detail-corners, halves-below}
use Rattle.details.proofs.detail_of_more.Goals as goal

pub detail_by-requires : goal.detail_by-requires
detail_by-requires g c =
    let h = halves-below _ c.requires.0 in
    let v = halves-below _ c.requires.1 in
    rw (c.requires.2, c.requires.3) (h.0, h.1, v.0, v.1)

pub returns : goal.returns
returns g c = (c.detail_by.ensures.0 ∙ ((λ t. four_masked (c.details_of-bits.ensures t) (c.requires.2 t) (c.requires.3 t)) ∙ detail-corners _ _ _ _ c.requires.0 c.requires.1 c.args.r.now.readable), c.detail_by.ensures.1)
