-- Lists of records: the tests of many records, and the records of a list made one after the other. Assumes nothing.
use Prim.Native.Nat.{ℕ, zero, suc, ◌*◌, ◌<◌}
use mathlib.Core.Path.{◌≡◌, refl, sym, ap, ◌∙◌}
use mathlib.Core.Bool.{true, not}
use mathlib.Core.List.Memᴰ
use mathlib.Core.List.{List, [], ◌∷◌, ◌++◌, append_assoc, Memᴰ}
use mathlib.Core.Logic.{⊎_elim}
use native.Mathlib.Nat.{eq-or-lt_of_le, le_of_suc-le-suc, not-suc-le-zero}
use native.Mathlib.Omega.{arith}
use lib.IntN.{ℤ}
use lib.ListN.{length, take, drop, length-append, length-drop}
use lib.Seq.{take-append-le, drop-append-le, take_all, drop_at}
use borrow.Author.Tests.{not-false}
use Rattle.definitions.specs.declared.Refusal.{Refusal}
use Rattle.definitions.specs.Replies.{Accepted}
use Rattle.definitions.specs.Basics.{up_to, for_each}
use Rattle.definitions.specs.Record.{record_words, record_at, well_formed}
use Rattle.definitions.specs.Refusals.{verdict_of, record_test, record_tests}
use Rattle.definitions.proofs.Choices.{no}
use Rattle.definitions.proofs.Verdicts.{first-passed, EachGives}

-- ---- the tests of some records are passed exactly when each is well formed
pub all-formed : (limit : ℕ) (base : List ℤ) (addresses : List ℕ) → verdict_of (record_tests limit base addresses) ≡ Accepted → (a : ℕ) → Memᴰ a addresses → well_formed limit (record_at base a) ≡ true
unfolding record_tests
all-formed limit base [] v a m = absurd (Memᴰ.not-nil m)
all-formed limit base (b ∷ rest) v a m =
    let h = first-passed (record_test limit base b) (record_tests limit base rest) v in
    ⊎_elim (λ e. ap (λ (c : ℕ). well_formed limit (record_at base c)) e ∙ not-false (well_formed limit (record_at base b)) h.0) (λ t. all-formed limit base rest h.1 a t) (Memᴰ.cases_cons m)

pub formed-all : (limit : ℕ) (base : List ℤ) (addresses : List ℕ) → ((a : ℕ) → Memᴰ a addresses → well_formed limit (record_at base a) ≡ true) → verdict_of (record_tests limit base addresses) ≡ Accepted
unfolding record_tests
formed-all limit base [] f = refl
formed-all limit base (b ∷ rest) f =
    no _ _ (ap not (f b (Memᴰ.head refl))) ∙ formed-all limit base rest (λ a m. f a (Memᴰ.tail m))

-- what holds of what each record's test gives
pub records-give : (limit : ℕ) (P : Refusal → Type 0) (base : List ℤ) (addresses : List ℕ) → ((a : ℕ) → Memᴰ a addresses → P (record_test limit base a).gives) → EachGives P (record_tests limit base addresses)
unfolding record_tests
records-give limit P base [] h = tt
records-give limit P base (a ∷ rest) h = (h a (Memᴰ.head refl), records-give limit P base rest (λ b m. h b (Memᴰ.tail m)))

-- ---- the members of f 0, f 1, .. f (n−1), and of 0, 1, .. n−1
pub index-member : (n a : ℕ) → a < n → Memᴰ a (up_to n (λ k. k))
unfolding up_to
index-member zero a h = absurd (not-suc-le-zero h)
index-member (suc n) a h =
    ⊎_elim (λ e. Memᴰ.append_right (up_to n (λ k. k)) (Memᴰ.head e)) (λ l. Memᴰ.append_left (n ∷ []) (index-member n a l)) (eq-or-lt_of_le (le_of_suc-le-suc h))

pub member-up_to : (n : ℕ) (f : ℕ → ℕ) {x : ℕ} → Memᴰ x (up_to n f) → (k : ℕ) × (k < n) × (x ≡ f k)
unfolding up_to
member-up_to zero f m = absurd (Memᴰ.not-nil m)
member-up_to (suc n) f m =
    ⊎_elim (λ l. let w = member-up_to n f l in (w.0, omega (arith, w.1), w.2)) (λ l. (n, omega arith, Memᴰ.eq_of_singleton l)) (Memᴰ.append_cases (up_to n f) m)

pub member-index : (n a : ℕ) → Memᴰ a (up_to n (λ k. k)) → a < n
member-index n a m = let w = member-up_to n (λ k. k) m in omega (arith, w.1, w.2)

-- ---- records one after the other
pub joined-each : {A B : Type 0} (f : A → List B) (xs ys : List A) → for_each (xs ++ ys) f ≡ for_each xs f ++ for_each ys f
joined-each f [] ys = refl
joined-each f (x ∷ xs) ys = ap (λ (l : List _). f x ++ l) (joined-each f xs ys) ∙ sym (append_assoc (f x) (for_each xs f) (for_each ys f))

-- the lists of members by an index, one after the other, from two such lists
pub each_same : {A B C : Type 0} (f : ℕ → A) (g : ℕ → B) (p : A → List C) (q : B → List C) → ((k : ℕ) → p (f k) ≡ q (g k)) → (n : ℕ) → for_each (up_to n f) p ≡ for_each (up_to n g) q
unfolding up_to
each_same f g p q e zero = refl
each_same f g p q e (suc n) =
    joined-each p (up_to n f) (f n ∷ []) ∙ ((λ i. each_same f g p q e n i ++ (e n i ++ [])) ∙ sym (joined-each q (up_to n g) (g n ∷ [])))

module _ {A : Type 0} (f : ℕ → A) (words : A → List ℤ) (whole : (k : ℕ) → length (words (f k)) ≡ record_words) where
  abbrev first : ℕ → List ℤ
  first n = for_each (up_to n f) words

  first_more : (n : ℕ) → first (suc n) ≡ first n ++ (words (f n) ++ [])
  unfolding up_to
  first_more n = joined-each words (up_to n f) (f n ∷ [])

  pub first-length : (n : ℕ) → length (first n) ≡ record_words * n
  unfolding up_to
  first-length zero = refl
  first-length (suc n) = ap length (first_more n) ∙ simp (length-append, first-length n, whole) (omega arith)

  -- the record at an address is the one that was put there
  pub record_of : (n a : ℕ) → a < n → record_at (first n) a ≡ words (f a)
  unfolding record_at
  record_of zero a h = absurd (not-suc-le-zero h)
  record_of (suc n) a h =
      ap (λ (l : List ℤ). record_at l a) (first_more n)
      ∙ ⊎_elim
      (λ e. ap (take record_words) (drop_at (first n) (words (f n) ++ []) (record_words * a) (first-length n ∙ ap (λ (k : ℕ). record_words * k) (sym e)))
      ∙ (take-append-le record_words (words (f n)) [] (omega (arith, whole n)) ∙ (take_all record_words (words (f n)) (omega (arith, whole n)) ∙ ap (λ (k : ℕ). words (f k)) (sym e))))
      (λ l. ap (take record_words) (drop-append-le (record_words * a) (first n) (words (f n) ++ []) (omega (arith, first-length n)))
      ∙ (take-append-le record_words (drop (record_words * a) (first n)) (words (f n) ++ []) (omega (arith, first-length n, length-drop (record_words * a) (first n))) ∙ record_of n a l))
      (eq-or-lt_of_le (le_of_suc-le-suc h))
