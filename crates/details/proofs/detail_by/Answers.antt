use mathlib.Core.Path.{◌∙◌}
use lib.ListN.{get_or}
use Rattle.definitions.specs.Basics.{up_to}
use Rattle.details.specs.Bits.{masked_by}
use Rattle.details.proofs.Masks.{rows_at, rows-below}
use borrow.Author.Rules.{rules}
use Rattle.details.proofs.detail_by.Goals as goal

pub four_by-requires : goal.four_by-requires
unfolding up_to
four_by-requires c = search (rules, rows-below)

pub returns : goal.returns
unfolding up_to
returns c =
    let upper = rows_at (get_or c.args.v 0 0) c.requires.2 in
    let lower = rows_at (get_or c.args.v 1 0) c.requires.3 in
    (c.four_by.ensures.0 ∙ (λ t. masked_by c.args.bits c.args.h (upper t) (lower t)), c.four_by.ensures.1)
