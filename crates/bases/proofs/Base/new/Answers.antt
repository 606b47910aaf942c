use Rattle.std.proofs.Common.{◌≡◌, false, true, ℕ}
use native.Mathlib.Omega.{arith}
use Rattle.std.proofs.lemmas.Result.{err_from_is_err_and}
use Rattle.bases.proofs.Judged.{passed, stopped}
use Rattle.bases.proofs.Base.new.Goals as goal

wrong-end : false ≡ true → ⊥
wrong-end x = let z : ◌≡◌ {A = ℕ} 0 1 = cc in omega arith

pub returns-in_err-unless-clause-right : goal.returns-in_err-unless-clause-right
returns-in_err-unless-clause-right g c =
    let p = err_from_is_err_and c.from_residual.result c.from_residual.ensures.1 in
    rw p.1 (λ x. absurd (wrong-end x), λ e. absurd ((stopped _ _ _ _ _ c.base_right.ensures c.unless.ensures _ c.in_err-unless.was).0 e))

pub returns-in_err-unless-clause-refused : goal.returns-in_err-unless-clause-refused
returns-in_err-unless-clause-refused g c =
    let p = err_from_is_err_and c.from_residual.result c.from_residual.ensures.1 in
    rw (p.1, p.2) ((stopped _ _ _ _ _ c.base_right.ensures c.unless.ensures _ c.in_err-unless.was).1)

pub invariant_of-result : goal.invariant_of-result
invariant_of-result g c = record { long = passed _ _ _ _ _ c.base_right.ensures c.unless.ensures _ c.in_ok-unless.was }
