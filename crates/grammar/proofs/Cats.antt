-- Languages set one after the other.
use Prim.Native.Nat.{ℕ}
use mathlib.Core.Path.{◌≡◌, refl, sym, ◌∙◌, ap, subst}
use mathlib.Core.List.{List, [], ◌∷◌, ◌++◌, append_assoc, nil≢cons, head-eq_of_cons-eq as heads, tail-eq_of_cons-eq as tails}

pub record Cat (P B : List ℕ → Type 0) (u : List ℕ) : Type 0 where
  pub left : List ℕ
  pub right : List ℕ
  pub is : P left
  pub then : B right
  pub cut : u ≡ left ++ right

pub no-cons : {A X : Type 0} {x : X} {l : List X} → [] ≡ x ∷ l → A
no-cons e = absurd (nil≢cons e)

module _ {P B : List ℕ → Type 0} where
  -- the first byte of two languages is the first one's, if that one has no empty text
  pub cat-cons : (P [] → ⊥) → {b : ℕ} {u : List ℕ} → Cat P B (b ∷ u) → Cat (λ w. P (b ∷ w)) B u
  cat-cons n {b} {u} h = by_left h.left h.is h.cut
    where
      by_left : (w : List ℕ) → P w → b ∷ u ≡ w ++ h.right → Cat (λ w. P (b ∷ w)) B u
      by_left [] p e = absurd (n p)
      by_left (c ∷ w) p e = record { left = w; right = h.right; is = subst (λ (x : ℕ). P (x ∷ w)) (sym (heads e)) p; then = h.then; cut = tails e }

  pub cons-cat : {b : ℕ} {u : List ℕ} → Cat (λ w. P (b ∷ w)) B u → Cat P B (b ∷ u)
  cons-cat {b} h = record { left = b ∷ h.left; right = h.right; is = h.is; then = h.then; cut = ap (λ (l : List ℕ). b ∷ l) h.cut }

  -- or the second one's, where the first one's text is empty
  pub cat-either : {C : Type 0} {b : ℕ} {u : List ℕ} → Cat P B (b ∷ u) → (P [] → B (b ∷ u) → C) → (Cat (λ w. P (b ∷ w)) B u → C) → C
  cat-either {C} {b} {u} h f g = by_left h.left h.is h.cut
    where
      by_left : (w : List ℕ) → P w → b ∷ u ≡ w ++ h.right → C
      by_left [] p e = f p (subst B (sym e) h.then)
      by_left (c ∷ w) p e = g (record { left = w; right = h.right; is = subst (λ (x : ℕ). P (x ∷ w)) (sym (heads e)) p; then = h.then; cut = tails e })

  pub cat-empty : {u : List ℕ} (h : Cat P B u) → h.left ≡ [] → B u
  cat-empty h n = subst B (sym (h.cut ∙ ap (λ (l : List ℕ). l ++ h.right) n)) h.then

  pub cat-with : {Q : List ℕ → Type 0} {u : List ℕ} (h : Cat P B u) → Q h.left → Cat Q B u
  cat-with h q = record { left = h.left; right = h.right; is = q; then = h.then; cut = h.cut }

module _ {P Q B : List ℕ → Type 0} where
  pub cat-right : {u : List ℕ} → Cat (Cat P Q) B u → Cat P (Cat Q B) u
  cat-right h =
      record {
        left = h.is.left;
        right = h.is.right ++ h.right;
        is = h.is.is;
        then = record { left = h.is.right; right = h.right; is = h.is.then; then = h.then; cut = refl };
        cut = h.cut ∙ ap (λ (l : List ℕ). l ++ h.right) h.is.cut ∙ append_assoc h.is.left h.is.right h.right;
      }
