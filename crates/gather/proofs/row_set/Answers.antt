use Prim.Native.Nat.{◌+◌, ◌*◌, ◌≤◌}
use native.Mathlib.Omega.{arith}
use Rattle.gather.proofs.Sets.{row-by-bits}
use Rattle.gather.proofs.row_set.Goals as goal

pub returns : goal.returns
returns c =
    let fits : c.bit_of-n.result + 2 * c.beside_of-b.result + 4 * c.beside_of-c.result + 8 * c.beside_of-d.result ≤ 15 = let b = c.beside_of-b.ensures.top 1 c.bit_of-n.ensures.1 c.bit_of-f.ensures.1 in
    let d = c.beside_of-c.ensures.top 1 c.bit_of-n.ensures.1 c.bit_of-f.ensures.1 in
    let e = c.beside_of-d.ensures.top 1 c.bit_of-n.ensures.1 c.bit_of-f.ensures.1 in
    omega (arith, c.bit_of-n.ensures.1, b, d, e) in
    (rw (c.beside_of-b.ensures.is, c.beside_of-c.ensures.is, c.beside_of-d.ensures.is, c.bit_of-n.ensures.0, c.bit_of-f.ensures.0) (row-by-bits c.args.across c.args.near c.args.far), fits)
