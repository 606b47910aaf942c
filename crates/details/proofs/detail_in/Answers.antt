use mathlib.Core.Path.{◌∙◌}
use lib.ListN.{get_or}
use Rattle.details.specs.Bits.{masked_by}
use Rattle.details.proofs.Masks.{rows_in}
use Rattle.details.proofs.detail_in.Goals as goal

pub returns : goal.returns
returns c =
    let upper = rows_in (get_or c.args.v 0 0) c.requires.2 in
    let lower = rows_in (get_or c.args.v 1 0) c.requires.3 in
    (c.four_by.ensures.0 ∙ (λ t. masked_by c.args.bits c.args.h (upper t) (lower t)), c.four_by.ensures.1)
