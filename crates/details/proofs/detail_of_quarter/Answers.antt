use Prim.Native.Nat.{ℕ, ◌+◌, ◌*◌, ◌/◌, ◌%◌, ◌^◌, ◌≤◌}
use mathlib.Core.Path.{ap, ◌∙◌}
use native.Mathlib.Omega.{arith}
use lib.Bits.{bit_and, and_le_r}
use lib.ListN.{get_or}
use Rattle.details.proofs.Reading.{detail-quarter}
use Rattle.details.proofs.detail_of_quarter.Goals as goal

-- how far the bits are shifted, and that one is left
abbrev by : (g : _) → goal.After-reads_detail-bits g → ℕ
by g c = 2 * (get_or c.args.r.now.down 0 0 % 4 / 2) + get_or c.args.r.now.across 0 0 % 4 / 2

pub reads_detail-bits-requires : goal.reads_detail-bits-requires
reads_detail-bits-requires g c = (c.args.r.now.readable 0 (omega arith), c.args.r.now.low)

pub returns : goal.returns
returns g c =
    let one : bit_and (c.reads_detail-bits.result / 2 ^ by g c) 1 ≤ 1 = and_le_r (c.reads_detail-bits.result / 2 ^ by g c) 1 in
    (ap (λ (n : ℕ). 15 * bit_and (n / 2 ^ by g c) 1) c.reads_detail-bits.ensures.0 ∙ detail-quarter _ _ _ _ c.requires.0 c.requires.1 c.requires.2 c.requires.3, omega (arith, one))
