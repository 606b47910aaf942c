use Prim.Native.Nat.{ℕ, ◌<◌, ◌≤◌}
use mathlib.Core.Path.{sym, subst}
use native.Mathlib.Omega.{arith}
use mir.Val.{SFits}
use Rattle.definitions.specs.Basics.{minus}
use Rattle.definitions.specs.Record.{wide}
use Rattle.records.proofs.Limits.{low-is, high_is, upper_fits}
use Rattle.records.proofs.check.vectors.Goals as goal

pub of-requires : goal.of-requires
of-requires g c =
    let most : c.LIMIT-above.result ≤ wide = omega (arith, c.LIMIT-above.ensures, g.met.W.Word.small) in
    subst (SFits g.W.Word.BITS) (sym (low-is c.LIMIT-above.result most)) (subst (λ (n : ℕ). SFits g.W.Word.BITS (minus n)) (sym c.LIMIT-above.ensures) g.met.W.Word.room)

pub of-requires-2 : goal.of-requires-2
of-requires-2 g c =
    let most : c.LIMIT-above.result ≤ wide = omega (arith, c.LIMIT-above.ensures, g.met.W.Word.small) in
    let some : 0 < c.LIMIT-above.result = omega (arith, c.LIMIT-above.ensures, g.met.W.Word.large) in
    subst (SFits g.W.Word.BITS) (sym (high_is c.LIMIT-above.result most some))
    (upper_fits g.W.Word.BITS c.LIMIT-above.result (subst (λ (n : ℕ). SFits g.W.Word.BITS (minus n)) (sym c.LIMIT-above.ensures) g.met.W.Word.room))
