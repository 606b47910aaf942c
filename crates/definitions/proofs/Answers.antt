-- The three cases of an answer, each with what decides it (specs/Answer). Assumes nothing.
use Prim.Native.Nat.{ℕ, ◌≤◌}
use mathlib.Core.Path.{◌≡◌, refl, sym, ap, subst, ◌∙◌}
use mathlib.Core.Bool.{Bool, true, false}
use mathlib.Core.List.{List, []}
use native.Mathlib.Omega.{arith}
use lib.Count.{ones}
use lib.Dec.{leb}
use lib.IntN.{ℤ}
use borrow.Author.Tests.{leb-true, leb-false}
use Rattle.definitions.specs.declared.Axes.{Axes}
use Rattle.definitions.specs.declared.Answer.{Answer}
use Rattle.definitions.specs.declared.Answer.TheVariants.{Outside, Intra, Inherited}
use Rattle.definitions.specs.Geometry.{inside}
use Rattle.definitions.specs.Inheriting.{intra_set, inherited_motions, chosen}
use Rattle.definitions.specs.Answer.{basis_at, answer_of, written_for, made_of}
use Rattle.definitions.proofs.Choices.{yes, no}

-- an answer, and why it is the one
pub data Decided (g : Axes) (base : List ℤ) (column row : ℕ) : Answer → Type 0 where
  is-outside : inside g column row ≡ false → Decided g base column row Outside
  is-intra : inside g column row ≡ true → 9 ≤ ones (intra_set g base column row) → Decided g base column row (Intra (basis_at g base column row))
  is-inherited : inside g column row ≡ true → ones (intra_set g base column row) ≤ 8 → Decided g base column row (Inherited (basis_at g base column row) (chosen (inherited_motions g base column row)))

module _ (g : Axes) (base : List ℤ) (column row : ℕ) where
  by_count : (many : Bool) → inside g column row ≡ true → leb 9 (ones (intra_set g base column row)) ≡ many → Decided g base column row (answer_of g base column row)
  unfolding answer_of
  by_count true p q =
      subst (Decided g base column row) (sym (yes _ _ p ∙ yes _ _ q)) (is-intra p (leb-true 9 _ q))
  by_count false p q =
      let few : ones (intra_set g base column row) ≤ 8 = omega (arith, leb-false 9 (ones (intra_set g base column row)) q) in
      subst (Decided g base column row) (sym (yes _ _ p ∙ no _ _ q)) (is-inherited p few)

  by-window : (within : Bool) → inside g column row ≡ within → Decided g base column row (answer_of g base column row)
  unfolding answer_of
  by-window true p = by_count (leb 9 (ones (intra_set g base column row))) p refl
  by-window false p = subst (Decided g base column row) (sym (no _ _ p)) (is-outside p)

  pub decided : Decided g base column row (answer_of g base column row)
  decided = by-window (inside g column row) refl

  -- outside nothing of the base is read
  pub made-outside : inside g column row ≡ false → made_of g base column row ≡ record { answer = Outside; written = written_for Outside [] }
  unfolding made_of answer_of written_for
  made-outside e = ap (λ (a : Answer). record { answer = a; written = written_for a (inherited_motions g base column row) }) (no _ _ e)
