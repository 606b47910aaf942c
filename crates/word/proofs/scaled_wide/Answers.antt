use Prim.Native.Nat.{◌+◌, ◌*◌, ◌/◌, ◌<◌, ◌^◌}
use mathlib.Core.Path.{◌≡◌, ap, ◌∙◌}
use native.Mathlib.Omega.{arith}
use lib.IntN.{ℤ, pos, sub_ℕ, ◌+ℤ◌, ◌-ℤ◌}
use mir.Facts.{to_z-of_z, to_z_pos}
use mir.Syntax.{w32}
use mir.Val.{of_z, to_z}
use Rattle.definitions.specs.Record.{wide}
use Rattle.definitions.proofs.Differences.{pos-minus}
use Rattle.word.proofs.Wide.{Rising, rising}
use Rattle.word.proofs.scaled_wide.Goals as goal

-- the raised word, and what the difference is
raising : (c : goal.After-round_product) → Rising c.args.n c.args.v
raising c = rising c.args.n c.args.v c.requires.0 c.requires.1

difference : (c : goal.After-round_product) → to_z w32 c.round_product.result -ℤ to_z w32 (2 * c.args.n) ≡ sub_ℕ (((raising c).up * c.args.n + 32768) / 65536) (2 * c.args.n)
difference c =
    let f = raising c in
    let up_small : f.up < 2 ^ 31 = omega (arith, f.low) in
    let word : to_z w32 (of_z w32 c.args.v) +ℤ pos wide ≡ pos f.up = ap (λ (z : ℤ). z +ℤ pos wide) (to_z-of_z c.ranges.v) ∙ f.sum in
    let rounded : c.round_product.result ≡ (f.up * c.args.n + 32768) / 65536 = rw (word, to_z_pos w32 up_small) at c.round_product.ensures in
    let first : to_z w32 c.round_product.result ≡ pos ((f.up * c.args.n + 32768) / 65536) = ap (to_z w32) rounded ∙ to_z_pos w32 (omega (arith, f.product)) in
    let twice : to_z w32 (2 * c.args.n) ≡ pos (2 * c.args.n) = to_z_pos w32 (omega (arith, c.requires.0)) in
    (λ i. first i -ℤ twice i) ∙ pos-minus ((f.up * c.args.n + 32768) / 65536) (2 * c.args.n)

pub overflow_sub-result : goal.overflow_sub-result
overflow_sub-result c = rw (difference c) (raising c).fits

pub returns : goal.returns
returns c = rw (difference c, to_z-of_z (raising c).fits) (raising c).is
