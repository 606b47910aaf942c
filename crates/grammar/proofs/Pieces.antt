-- The bytes of a text from one byte to another, and two lists that are each cut in two.
use Prim.Native.Nat.{ℕ, suc, ◌≤◌, ◌<◌, ◌+◌, ◌-◌}
use mathlib.Core.Path.{◌≡◌, refl, sym, ◌∙◌, ap}
use mathlib.Core.Bool.{Bool, true, false}
use mathlib.Core.Logic.{◌⊎◌, inl, inr, ⊎_elim}
use mathlib.Core.List.{List, [], ◌∷◌, ◌++◌, head-eq_of_cons-eq as heads, tail-eq_of_cons-eq as tails}
use native.Mathlib.Omega.{arith}
use native.Mathlib.Nat.{eq-or-lt_of_le}
use native.Mathlib.Numerals.{add-one}
use lib.Dec.{ltb}
use borrow.Author.Tests.{ltb-true, ltb-false}
use lib.ListN.{length, get_or, take, drop, take-append-drop, length-drop, drop_of_length-le}
use lib.Seq.{take-add, drop-drop, drop-cons, take_at, take_all, take-nil}
use Rattle.grammar.specs.Readers.{part}

pub lt-or-le : (m n : ℕ) → (m < n) ⊎ (n ≤ m)
lt-or-le m n = by-test (ltb m n) refl
  where
    by-test : (t : Bool) → ltb m n ≡ t → (m < n) ⊎ (n ≤ m)
    by-test true e = inl (ltb-true m n e)
    by-test false e = inr (ltb-false m n e)

-- what two ways to cut one list in two have to do with each other
pub data Compared (l r w x : List ℕ) : Type 0 where
  same : l ≡ w → r ≡ x → Compared l r w x
  longer : (c : ℕ) (y : List ℕ) → l ≡ w ++ (c ∷ y) → x ≡ c ∷ (y ++ r) → Compared l r w x
  shorter : (c : ℕ) (y : List ℕ) → w ≡ l ++ (c ∷ y) → r ≡ c ∷ (y ++ x) → Compared l r w x

pub compare : (l r w x : List ℕ) → l ++ r ≡ w ++ x → Compared l r w x
compare [] r [] x e = same refl e
compare [] r (c ∷ w) x e = shorter c w refl e
compare (c ∷ l) r [] x e = longer c l refl (sym e)
compare (c ∷ l) r (d ∷ w) x e = by-tails (compare l r w x (tails e))
  where
    by-tails : Compared l r w x → Compared (c ∷ l) r (d ∷ w) x
    by-tails (same p q) = let h : c ≡ d = heads e in same (cc) q
    by-tails (longer b y p q) = let h : c ≡ d = heads e in longer b y (cc) q
    by-tails (shorter b y p q) = let h : c ≡ d = heads e in shorter b y (cc) q

module _ (s : List ℕ) where
  pub part_none : (i e : ℕ) → e ≤ i → part s i e ≡ []
  unfolding part
  part_none i e l = let z : e - i ≡ 0 = omega arith in rw z

  pub part-past : (i e : ℕ) → length s ≤ i → part s i e ≡ []
  unfolding part
  part-past i e l = let q : drop i s ≡ [] = drop_of_length-le s l in rw q (take-nil (e - i))

  pub part_join : (i a e : ℕ) → i ≤ a → a ≤ e → part s i e ≡ part s i a ++ part s a e
  unfolding part
  part_join i a e l m =
      let z : e - i ≡ (a - i) + (e - a) = omega arith in
      let y : i + (a - i) ≡ a = omega arith in
      rw z (take-add (a - i) (e - a) (drop i s) ∙ ap (λ (u : List ℕ). take (a - i) (drop i s) ++ take (e - a) u) (drop-drop (a - i) i s ∙ ap (λ (j : ℕ). drop j s) y))

  pub part-first : (i e : ℕ) → i < e → i < length s → part s i e ≡ get_or s i 0 ∷ part s (i + 1) e
  unfolding part
  part-first i e l m =
      let z : e - i ≡ suc (e - (i + 1)) = omega arith in
      rw (z, drop-cons s i 0 m) (ap (λ (j : ℕ). get_or s i 0 ∷ take (e - (i + 1)) (drop j s)) (sym (add-one i)))

  pub part-next : (i p : ℕ) → i ≤ p → p < length s → part s i (p + 1) ≡ part s i p ++ (get_or s p 0 ∷ [])
  part-next i p l m =
      part_join i p (p + 1) l (omega arith)
      ∙ ap (λ (u : List ℕ). part s i p ++ u) (part-first p (p + 1) (omega arith) m ∙ ap (λ (u : List ℕ). get_or s p 0 ∷ u) (part_none (p + 1) (p + 1) (omega arith)))

  -- what begins the bytes from i on is a part
  pub begin-part : (i : ℕ) (w z : List ℕ) → w ++ z ≡ drop i s → part s i (i + length w) ≡ w
  unfolding part
  begin-part i w z e =
      let n : i + length w - i ≡ length w = omega arith in
      rw n (ap (take (length w)) (sym e) ∙ take_at w z (length w) refl)

  -- and a part begins them
  pub part-begin : (i e : ℕ) → part s i e ++ drop (e - i) (drop i s) ≡ drop i s
  unfolding part
  part-begin i e = take-append-drop (e - i) (drop i s)

  pub part-rest : (i e : ℕ) → i ≤ e → part s i e ++ drop e s ≡ drop i s
  unfolding part
  part-rest i e l =
      let y : i + (e - i) ≡ e = omega arith in
      ap (λ (u : List ℕ). part s i e ++ u) (ap (λ (j : ℕ). drop j s) (sym y) ∙ sym (drop-drop (e - i) i s)) ∙ take-append-drop (e - i) (drop i s)

  pub part-all : (i : ℕ) → part s i (length s) ≡ drop i s
  unfolding part
  part-all i = take_all (length s - i) (drop i s) (omega (arith, length-drop i s))

  pub part-start : (e : ℕ) → part s 0 e ≡ take e s
  unfolding part
  part-start e = let z : e - 0 ≡ e = omega arith in rw z

  -- the first of the bytes from i on, if there are some
  pub drop-first : (i c : ℕ) (u : List ℕ) → drop i s ≡ c ∷ u → (i < length s) × (get_or s i 0 ≡ c)
  drop-first i c u e =
      let l : i < length s = ⊎_elim (λ h. absurd (omega (arith, simp length-drop at (ap length e)))) (λ h. h) (eq-or-lt_of_le (let q : i ≤ length s = omega (arith, simp length-drop at (ap length e)) in q)) in
      (l, heads (sym (drop-cons s i 0 l) ∙ e))
