-- A list that is filled part by part, each part of one length, as a buffer is whose parts are lent in turn. Assumes nothing.
use Prim.Native.Nat.{ℕ, zero, suc, ◌+◌, ◌*◌}
use mathlib.Core.Path.{◌≡◌, sym, ap, ◌∙◌}
use mathlib.Core.List.{List, [], ◌∷◌, ◌++◌, append_assoc, append-nil}
use native.Mathlib.Nat.{mul-zero, mul-suc}
use native.Mathlib.Numerals.{add-one}
use native.Mathlib.Omega.{arith}
use lib.ListN.{length, take, drop, set, length-append, drop_of_length-le}
use lib.Seq.{take_at, drop_at, drop-drop, sets, sets-eq}
use Rattle.definitions.specs.Basics.{up_to, for_each}
use Rattle.definitions.proofs.RecordLists.{joined-each}

-- the parts 0 .. n−1, one after the other
abbrev pub parts : {A : Type 0} → ℕ → (ℕ → List A) → List A
parts n f = for_each (up_to n (λ k. k)) f

pub parts_more : {A : Type 0} (n : ℕ) (f : ℕ → List A) → parts (suc n) f ≡ parts n f ++ f n
unfolding up_to
parts_more n f = joined-each f (up_to n (λ k. k)) (n ∷ []) ∙ ap (λ (t : List _). parts n f ++ t) (append-nil (f n))

module _ {A : Type 0} (f : ℕ → List A) (size : ℕ) (sized : (k : ℕ) → length (f k) ≡ size) where
  pub parts-length : (n : ℕ) → length (parts n f) ≡ size * n
  unfolding up_to
  parts-length zero = sym (mul-zero size)
  parts-length (suc n) =
      ap (λ (t : List A). length t) (parts_more n f)
      ∙ (length-append (parts n f) (f n) ∙ omega (arith, parts-length n, sized n, mul-suc size n))

  -- the buffer once part n is back: k is the part's length as the code has it
  pub part-back :
      (out now part : List A) (n k : ℕ) →
      k ≡ size →
      now ≡ parts n f ++ drop (size * n) out →
      part ≡ f n →
      take (size * n) now ++ (part ++ drop k (drop (size * n) now)) ≡ parts (n + 1) f ++ drop (size * (n + 1)) out
  part-back out now part n k e so_far filled =
      rw (
        e,
        so_far,
        filled,
        take_at (parts n f) (drop (size * n) out) (size * n) (parts-length n),
        drop_at (parts n f) (drop (size * n) out) (size * n) (parts-length n),
        drop-drop size (size * n) out,
        add-one n,
        parts_more n f,
        mul-suc size n,
      )
      (sym (append_assoc (parts n f) (f n) (drop (size * n + size) out)))

pub parts_none : {A : Type 0} (f : ℕ → List A) (size : ℕ) (out : List A) → out ≡ parts 0 f ++ drop (size * 0) out
unfolding up_to
parts_none f size out = rw (mul-zero size)

-- at the end nothing of the buffer is left
pub parts_all : {A : Type 0} (f : ℕ → List A) (size : ℕ) (out : List A) (n k : ℕ) → length out ≡ size * n → k ≡ n → parts k f ++ drop (size * k) out ≡ parts n f
parts_all f size out n k l e = rw (e, drop_of_length-le out {i = size * n} (omega arith)) (append-nil (parts n f))

-- a buffer whose words are stored one after the other
pub stored-all : {A : Type 0} (vs out : List A) → length out ≡ length vs → sets out 0 vs ≡ vs
stored-all vs out e =
    sets-eq vs out 0 (omega arith) ∙ rw (drop_of_length-le out {i = 0 + length vs} (omega arith)) (append-nil vs)

-- and two runs of words, the second behind the first
pub sets-append : {A : Type 0} (l : List A) (i : ℕ) (xs ys : List A) → sets l i (xs ++ ys) ≡ sets (sets l i xs) (i + length xs) ys
sets-append l i [] ys = ap (λ (x : ℕ). sets l x ys) (let q : i ≡ i + 0 = omega arith in q)
sets-append l i (v ∷ vs) ys =
    sets-append (set l i v) (suc i) vs ys
    ∙ ap (λ (x : ℕ). sets (sets (set l i v) (suc i) vs) x ys) (let q : suc i + length vs ≡ i + suc (length vs) = omega arith in q)
