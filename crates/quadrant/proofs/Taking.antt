-- Four members taken by their indices, each mapped, are the mapped four taken by these. Assumes nothing.
use Rattle.std.proofs.Common.{◌≡◌, ℕ, ◌<◌, List, get_or, sym, ap, ◌∙◌}
use Rattle.definitions.specs.Basics.{four}
use Rattle.definitions.proofs.Choices.{four-at}

pub taken : {A B : Type 0} (f : A → B) (l : List A) (x : A) (y : B) {j k : ℕ} → (j ≡ k) × (j < 4) → f (get_or l j x) ≡ get_or (four (λ i. f (get_or l i x))) k y
taken f l x y {j} e = sym (four-at (λ i. f (get_or l i x)) y j e.1) ∙ ap (λ (i : ℕ). get_or (four (λ n. f (get_or l n x))) i y) e.0
