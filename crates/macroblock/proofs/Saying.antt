-- The split that a record's type and sub-types say, by their numbers. Assumes nothing.
use mathlib.Core.Path.{◌≡◌, refl, sym, ap, ◌∙◌}
use mathlib.Core.Bool.{Bool, true, false}
use mathlib.Core.List.{[], ◌∷◌}
use lib.IntN.{ℤ, pos}
use Rattle.definitions.specs.declared.SubSplit.{SubSplit}
use Rattle.definitions.specs.declared.SubSplit.TheVariants.{S8x8, S8x4, S4x8, S4x4}
use Rattle.definitions.specs.declared.Split.TheVariants.{S16x16, S16x8, S8x16, S8x8 as Quarters}
use Rattle.definitions.specs.Basics.{eq_z, pick}
use Rattle.definitions.specs.Record.{split_said, sub_split_of}
use Rattle.definitions.proofs.Choices.{eq_z-true, no}
use Rattle.macroblock.specs.declared.Said.{Said}
use Rattle.macroblock.specs.Made.{split_in}

-- another number
other : (z n : ℤ) → (z ≡ n → ⊥) → eq_z z n ≡ false
other z n d = by (eq_z z n) refl
  where
    by : (t : Bool) → eq_z z n ≡ t → t ≡ false
    by true e = absurd (d (eq_z-true z n e))
    by false e = refl

module _ (z : ℤ) where
  pub sub-8x8 : z ≡ pos 0 → S8x8 ≡ sub_split_of z
  unfolding pick
  sub-8x8 e = ap sub_split_of (sym e)

  pub sub-8x4 : z ≡ pos 1 → S8x4 ≡ sub_split_of z
  unfolding pick
  sub-8x4 e = ap sub_split_of (sym e)

  pub sub-4x8 : z ≡ pos 2 → S4x8 ≡ sub_split_of z
  unfolding pick
  sub-4x8 e = ap sub_split_of (sym e)

  pub sub-4x4 : (z ≡ pos 0 → ⊥) → (z ≡ pos 1 → ⊥) → (z ≡ pos 2 → ⊥) → S4x4 ≡ sub_split_of z
  sub-4x4 a b c = sym (no _ _ (other z (pos 0) a) ∙ (no _ _ (other z (pos 1) b) ∙ no _ _ (other z (pos 2) c)))

module _ (s : Said) where
  pub said-16x16 : s.kind ≡ pos 1 → S16x16 ≡ split_in s
  unfolding split_said pick
  said-16x16 e = ap (λ (k : ℤ). split_said (k ∷ s.a ∷ s.b ∷ s.c ∷ s.d ∷ [])) (sym e)

  pub said-16x8 : s.kind ≡ pos 2 → S16x8 ≡ split_in s
  unfolding split_said pick
  said-16x8 e = ap (λ (k : ℤ). split_said (k ∷ s.a ∷ s.b ∷ s.c ∷ s.d ∷ [])) (sym e)

  pub said-8x16 : s.kind ≡ pos 3 → S8x16 ≡ split_in s
  unfolding split_said pick
  said-8x16 e = ap (λ (k : ℤ). split_said (k ∷ s.a ∷ s.b ∷ s.c ∷ s.d ∷ [])) (sym e)

  pub said-8x8 : (s.kind ≡ pos 1 → ⊥) → (s.kind ≡ pos 2 → ⊥) → (s.kind ≡ pos 3 → ⊥) → {a b c d : SubSplit} → a ≡ sub_split_of s.a → b ≡ sub_split_of s.b → c ≡ sub_split_of s.c → d ≡ sub_split_of s.d
      → Quarters (record { a = a; b = b; c = c; d = d }) ≡ split_in s
  unfolding split_said
  said-8x8 l m n p q u t = (λ i. Quarters (record { a = p i; b = q i; c = u i; d = t i }))
      ∙ sym (no _ _ (other s.kind (pos 1) l) ∙ (no _ _ (other s.kind (pos 2) m) ∙ no _ _ (other s.kind (pos 3) n)))
