-- Bytes put one after the other. Assumes nothing.
use Prim.Native.Nat.{ℕ, ◌+◌, ◌/◌, ◌%◌, ◌≤◌, ◌<◌}
use mathlib.Core.Path.{◌≡◌, refl, sym, ap, subst, ◌∙◌}
use mathlib.Core.List.{List, [], ◌∷◌, ◌++◌, append-nil}
use native.Mathlib.Numerals.{add-one}
use native.Mathlib.Omega.{arith}
use lib.ListN.{length, take, drop, get_or, length-append, take-append-drop}
use lib.Seq.{sets, length-sets, take-suc, take_all}
use Rattle.definitions.specs.Basics.{for_each}
use Rattle.definitions.specs.Log.{decimal, line_of}
use Rattle.definitions.proofs.Parts.{sets-append}
use Rattle.definitions.proofs.RecordLists.{joined-each}
use Rattle.definitions.proofs.Lines.{decimal-one, decimal-more}
use Rattle.log_lines.specs.Put.{Fits, Put, items_of}

pub put-none : (old : List ℕ) (at : ℕ) → Put old at [] old at
put-none old at = record { stored = refl; after = omega arith }

-- bytes behind bytes
pub put_then : {old mid new : List ℕ} {at m n : ℕ} {xs ys : List ℕ} → Put old at xs mid m → Put mid m ys new n → Put old at (xs ++ ys) new n
put_then {old} {mid} {new} {at} {m} {n} {xs} {ys} p q = record {
  stored = q.stored ∙ (ap (λ (l : List ℕ). sets l m ys) p.stored ∙ (ap (λ (k : ℕ). sets (sets old at xs) k ys) p.after ∙ sym (sets-append old at xs ys)));
  after = let a = p.after in let b = q.after in simp length-append (omega arith);
}

-- the buffer keeps its length, so that what fitted behind the bytes still does
pub put-length : {old new : List ℕ} {at n : ℕ} {xs : List ℕ} → Put old at xs new n → length new ≡ length old
put-length {old} {at = at} {xs = xs} p = ap length p.stored ∙ length-sets old at xs

pub fits-then : {old mid : List ℕ} {at m : ℕ} {xs : List ℕ} (ys : List ℕ) → Fits old at (xs ++ ys) → Put old at xs mid m → Fits mid m ys
fits-then {xs = xs} ys f p = let a = p.after in let e = put-length p in omega (arith, length-append xs ys)

pub fits-first : (old : List ℕ) (at : ℕ) (xs ys : List ℕ) → Fits old at (xs ++ ys) → Fits old at xs
fits-first old at xs ys f = omega (arith, length-append xs ys)

-- ---- a number
pub digit-fits : (out : List ℕ) (at n d : ℕ) → n < 10 → Fits out at (decimal n) → Fits out at (d ∷ [])
digit-fits out at n d l f = rw (decimal-one n l) at f

pub digits-fit : (out : List ℕ) (at n d : ℕ) → 10 ≤ n → Fits out at (decimal n) → Fits out at (decimal (n / 10) ++ (d ∷ []))
digits-fit out at n d l f =
    omega (arith, ap length (decimal-more n l), length-append (decimal (n / 10)) ((48 + n % 10) ∷ []), length-append (decimal (n / 10)) (d ∷ []))

pub put-digit : {old new : List ℕ} {at n next d : ℕ} → n < 10 → d ≡ 48 + n → Put old at (d ∷ []) new next → Put old at (decimal n) new next
put-digit {old} {new} {at} {n} {next} l e p = subst (λ (bytes : List ℕ). Put old at bytes new next) (ap (λ (d : ℕ). d ∷ []) e ∙ sym (decimal-one n l)) p

pub put-digits : {old mid new : List ℕ} {at n m next d : ℕ} → 10 ≤ n → d ≡ 48 + n % 10 → Put old at (decimal (n / 10)) mid m → Put mid m (d ∷ []) new next → Put old at (decimal n) new next
put-digits {old} {mid} {new} {at} {n} {m} {next} l e p q =
    subst (λ (bytes : List ℕ). Put old at bytes new next) (ap (λ (d : ℕ). decimal (n / 10) ++ (d ∷ [])) e ∙ sym (decimal-more n l)) (put_then p q)

-- ---- part of a list, and one more
module _ (f : ℕ → List ℕ) (l : List ℕ) where
  each_more : (k : ℕ) → k < length l → for_each (take (k + 1) l) f ≡ for_each (take k l) f ++ f (get_or l k 0)
  each_more k h =
      ap (λ (j : ℕ). for_each (take j l) f) (add-one k)
      ∙ (ap (λ (o : List ℕ). for_each o f) (take-suc l k 0 h)
      ∙ (joined-each f (take k l) (get_or l k 0 ∷ []) ∙ ap (λ (o : List ℕ). for_each (take k l) f ++ o) (append-nil (f (get_or l k 0)))))

  each-split : (k : ℕ) → for_each l f ≡ for_each (take k l) f ++ for_each (drop k l) f
  each-split k = ap (λ (o : List ℕ). for_each o f) (sym (take-append-drop k l)) ∙ joined-each f (take k l) (drop k l)

  -- the writer of each element's bytes, after k of them
  module _ {old now : List ℕ} {at next : ℕ} (k : ℕ) (p : Put old at (for_each (take k l) f) now next) where
    pub each_fits : k < length l → Fits old at (for_each l f) → Fits now next (f (get_or l k 0))
    each_fits h room =
        let e = put-length p in
        let a = p.after in
        omega (arith, ap length (each_more k h), length-append (for_each (take k l) f) (f (get_or l k 0)), ap length (each-split (k + 1)), length-append (for_each (take (k + 1) l) f) (for_each (drop (k + 1) l) f))

    pub each-put : k < length l → {new : List ℕ} {last : ℕ} → Put now next (f (get_or l k 0)) new last → Put old at (for_each (take (k + 1) l) f) new last
    each-put h {new} {last} q = subst (λ (bytes : List ℕ). Put old at bytes new last) (sym (each_more k h)) (put_then p q)

    pub each_all : length l ≤ k → Put old at (for_each l f) now next
    each_all h = subst (λ (bytes : List ℕ). Put old at bytes now next) (ap (λ (o : List ℕ). for_each o f) (take_all k l h)) p

-- a word is its bytes, each put by itself
pub bytes-each : (w : List ℕ) → for_each w (λ b. b ∷ []) ≡ w
bytes-each [] = refl
bytes-each (b ∷ w) = ap (λ (l : List ℕ). b ∷ l) (bytes-each w)

-- ---- a line: a bracket, the word, the numbers, a bracket, a line feed
abbrev ends : List ℕ
ends = 41 ∷ 10 ∷ []

module _ (word numbers old : List ℕ) (at : ℕ) (room : Fits old at (line_of word numbers)) where
  pub bracket-fits : Fits old at (40 ∷ [])
  unfolding line_of
  bracket-fits = fits-first old at (40 ∷ []) (word ++ (items_of numbers ++ ends)) room

  module _ {m₁ : List ℕ} {a₁ : ℕ} (p : Put old at (40 ∷ []) m₁ a₁) where
    rest-fits : Fits m₁ a₁ (word ++ (items_of numbers ++ ends))
    unfolding line_of
    rest-fits = fits-then (word ++ (items_of numbers ++ ends)) room p

    pub word_fits : Fits m₁ a₁ word
    word_fits = fits-first m₁ a₁ word (items_of numbers ++ ends) rest-fits

    module _ {m₂ : List ℕ} {a₂ : ℕ} (q : Put m₁ a₁ word m₂ a₂) where
      pub items-fit : Fits m₂ a₂ (items_of numbers)
      items-fit = fits-first m₂ a₂ (items_of numbers) ends (fits-then (items_of numbers ++ ends) rest-fits q)

      module _ {m₃ : List ℕ} {a₃ : ℕ} (r : Put m₂ a₂ (items_of numbers) m₃ a₃) where
        ends-fit : Fits m₃ a₃ ends
        ends-fit = fits-then ends (fits-then (items_of numbers ++ ends) rest-fits q) r

        pub close-fits : Fits m₃ a₃ (41 ∷ [])
        close-fits = fits-first m₃ a₃ (41 ∷ []) (10 ∷ []) ends-fit

        module _ {m₄ : List ℕ} {a₄ : ℕ} (s : Put m₃ a₃ (41 ∷ []) m₄ a₄) where
          pub feed-fits : Fits m₄ a₄ (10 ∷ [])
          feed-fits = fits-then (10 ∷ []) ends-fit s

          pub line-put : {new : List ℕ} {next : ℕ} → Put m₄ a₄ (10 ∷ []) new next → Put old at (line_of word numbers) new next
          unfolding line_of
          line-put t = put_then p (put_then q (put_then r (put_then s t)))
