-- A word that is scaled, handed over in 32 bits and handed back; and words that are put one after another. Assumes nothing.
use Prim.Native.Nat.{ℕ, ◌≤◌}
use mathlib.Core.Path.{◌≡◌, sym, subst, ap, ◌∙◌}
use mathlib.Core.Bool.{true}
use mathlib.Core.List.{List, [], ◌∷◌}
use lib.IntN.{ℤ}
use lib.ListN.{length, set}
use mir.Syntax.{Width, w32}
use mir.Val.{SFits, of_z, to_z}
use mir.Facts.{to_z-of_z}
use Rattle.definitions.specs.Record.{fits, wide}
use Rattle.definitions.proofs.Parts.{stored-all}
use Rattle.motion.specs.declared.Scale.{Scale}
use Rattle.motion.specs.Scales.{scaled_with}
use Rattle.word.proofs.Rounded.{word_back}

module _ (limit : ℕ) (within : limit ≤ wide) (v : ℤ) (e : fits limit v ≡ true) (s : Scale) where
  pub scaled-back : (z : ℤ) → z ≡ scaled_with s (to_z w32 (of_z w32 v)) → z ≡ scaled_with s v
  scaled-back z is = is ∙ ap (scaled_with s) (word_back limit within v e)

  pub scaled-read : (z r : ℤ) → z ≡ scaled_with s (to_z w32 (of_z w32 v)) → r ≡ z → SFits w32 r → to_z w32 (of_z w32 r) ≡ scaled_with s v
  scaled-read z r is read held = to_z-of_z held ∙ read ∙ scaled-back z is

-- what fits words fits them after it was held in 32 bits
pub held-fits : (bits : Width) (r : ℤ) → SFits w32 r → SFits bits r → SFits bits (to_z w32 (of_z w32 r))
held-fits bits r held f = subst (SFits bits) (sym (to_z-of_z held)) f

-- ---- words put in turn
pub two-put : (l l1 l2 : List ℤ) (a b : ℤ) → length l ≡ 2 → l1 ≡ set l 0 a → l2 ≡ set l1 1 b → l2 ≡ a ∷ b ∷ []
two-put l l1 l2 a b long e1 e2 = e2 ∙ ap (λ (x : List ℤ). set x 1 b) e1 ∙ stored-all (a ∷ b ∷ []) l long

pub five-put : (l l1 l2 l3 l4 l5 : List ℤ) (a b c d e : ℤ) → length l ≡ 5
    → l1 ≡ set l 0 a → l2 ≡ set l1 1 b → l3 ≡ set l2 2 c → l4 ≡ set l3 3 d → l5 ≡ set l4 4 e → l5 ≡ a ∷ b ∷ c ∷ d ∷ e ∷ []
five-put l l1 l2 l3 l4 l5 a b c d e long e1 e2 e3 e4 e5 =
    e5 ∙ ap (λ (x : List ℤ). set x 4 e) (e4 ∙ ap (λ (x : List ℤ). set x 3 d) (e3 ∙ ap (λ (x : List ℤ). set x 2 c) (e2 ∙ ap (λ (x : List ℤ). set x 1 b) e1)))
    ∙ stored-all (a ∷ b ∷ c ∷ d ∷ e ∷ []) l long
