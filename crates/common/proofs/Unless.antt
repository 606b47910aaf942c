-- What `unless` gave tells the test: Ok, it holds; a refusal, it does not, and the refusal is by the number. Assumes nothing.
use Prim.Native.Nat.{ℕ}
use mathlib.Core.Path.{◌≡◌, refl, sym}
use mathlib.Core.Bool.{Bool, true, false, not}
use Rattle.std.specs.Prelude.{Err}
use Rattle.definitions.specs.declared.Refusal.{Refusal}
use Rattle.definitions.specs.Basics.{pick}
use Rattle.definitions.specs.Refusals.{refusal}
use Rattle.definitions.specs.Replies.{Verdict, Accepted}

abbrev pub Unless : Bool → ℕ → Verdict
Unless right n = pick (not right) (Err (refusal n)) Accepted

pub unless_passed : (right : Bool) (n : ℕ) → ◌≡◌ {A = Verdict} (Unless right n) Accepted → right ≡ true
unfolding pick
unless_passed true n e = refl
unless_passed false n e = cc

pub unless_refused : (right : Bool) (n : ℕ) (r : Refusal) → ◌≡◌ {A = Verdict} (Unless right n) (Err r) → (right ≡ false) × (r ≡ refusal n)
unfolding pick
unless_refused true n r e = (cc, cc)
unless_refused false n r e = (refl, cc)
