-- What a judged base says: of its length, and of its records. Assumes nothing.
use Prim.Native.Nat.{ℕ, ◌*◌}
use mathlib.Core.Path.{◌≡◌, refl, sym, ◌∙◌}
use mathlib.Core.Bool.{Bool, true, false, not}
use mathlib.Core.List.{List}
use native.Mathlib.Omega.{arith}
use lib.Dec.{eqb}
use lib.IntN.{ℤ}
use lib.ListN.{length}
use borrow.Author.Tests.{eqb-true, eqb-false}
use Rattle.std.specs.Prelude.{Ok, Err}
use Rattle.common.specs.Bases.{BaseFormed}
use Rattle.definitions.specs.declared.Axes.{Axes}
use Rattle.definitions.specs.declared.Refusal.{Refusal}
use Rattle.definitions.specs.Accepted.{AcceptedAxes}
use Rattle.definitions.specs.Basics.{pick}
use Rattle.definitions.specs.Raster.{base_count}
use Rattle.definitions.specs.Record.{record_words}
use Rattle.definitions.specs.Refusals.{refusal, record_tests, verdict_of, all_addresses}
use Rattle.definitions.specs.Replies.{Verdict, Accepted}
use Rattle.definitions.proofs.RecordLists.{all-formed, index-member}
use Rattle.records.specs.Checking.{addresses}
use Rattle.records.proofs.Addresses.{all-checked}

-- ---- a test, and the verdict on it
accepted : (right : Bool) (number : ℕ) (v : Verdict) (u : Unit {0}) → v ≡ pick (not right) (Err (refusal number)) Accepted → v ≡ Ok u → right ≡ true
unfolding pick
accepted true number v u p e = refl
accepted false number v u p e = absurd (let z : ◌≡◌ {A = ℕ} 0 1 = cc in omega arith)

refused : (right : Bool) (number : ℕ) (v : Verdict) (r : Refusal) → v ≡ pick (not right) (Err (refusal number)) Accepted → v ≡ Err r → (right ≡ false) × (r ≡ refusal number)
unfolding pick
refused false number v r p e = (refl, cc)
refused true number v r p e = absurd (let z : ◌≡◌ {A = ℕ} 0 1 = cc in omega arith)

module _ (a b number : ℕ) (right : Bool) (v : Verdict) (is : right ≡ eqb a b) (by : v ≡ pick (not right) (Err (refusal number)) Accepted) where
  -- accepted, the two numbers are equal
  pub passed : (u : Unit {0}) → v ≡ Ok u → a ≡ b
  passed u e = eqb-true a b (sym is ∙ accepted right number v u by e)

  -- refused, they differ, and the refusal has the number
  pub stopped : (r : Refusal) → v ≡ Err r → (a ≡ b → ⊥) × (r ≡ refusal number)
  stopped r e = let w = refused right number v r by e in (eqb-false a b (sym is ∙ w.0), w.1)

-- ---- all records are checked
pub formed-of : (limit n : ℕ) (g : Axes) (base : List ℤ) (v : Verdict) (u : Unit {0}) → AcceptedAxes g → length base ≡ record_words * base_count g → n ≡ base_count g
    → v ≡ verdict_of (record_tests limit base (addresses 0 n)) → v ≡ Ok u → BaseFormed limit g base
formed-of limit n g base v u axes long count by e = record {
  right = record { axes = axes; base-length = long };
  formed = λ a h. all-formed limit base (all_addresses g) (all-checked limit g base n count ∙ (sym by ∙ e)) a (index-member (base_count g) a h);
}
