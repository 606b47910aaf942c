-- Laws of the log's lines: numbers in decimal are as the grammar has them, and how long a line can be (specs/Log). Assumes nothing.
use Prim.Native.Nat.{ℕ, zero, suc, ◌+◌, ◌-◌, ◌*◌, ◌/◌, ◌%◌, ◌≤◌, ◌<◌}
use mathlib.Core.Path.{◌≡◌, refl, sym, ap, subst, ◌∙◌}
use mathlib.Core.Bool.{Bool, true, false}
use mathlib.Core.List.{List, [], ◌∷◌, ◌++◌, append_assoc}
use native.Mathlib.Omega.{arith}
use lib.Dec.{ltb}
use lib.IntN.{ℤ}
use lib.ListN.{length, get_or, drop, length-append}
use borrow.Author.Tests.{ltb-true, ltb-false, lt-ltb, le-ltb}
use Rattle.definitions.specs.declared.Axes.{Axes}
use Rattle.definitions.specs.declared.Answer.{Answer}
use Rattle.definitions.specs.declared.Answer.TheVariants.{Outside, Intra, Inherited}
use Rattle.definitions.specs.declared.SubSplit.{SubSplit}
use Rattle.definitions.specs.declared.SubSplit.TheVariants.{S8x8, S8x4, S4x8, S4x4}
use Rattle.definitions.specs.declared.Split.TheVariants.{S16x16, S16x8, S8x16, S8x8 as Quarters}
use Rattle.definitions.specs.declared.Refusal.{Refusal}
use Rattle.definitions.specs.Basics.{pick, up_to, for_each}
use Rattle.definitions.specs.Splits.{sub_count}
use Rattle.definitions.specs.Answer.{answer_type}
use Rattle.definitions.specs.Text.{Digit, All, none, each, valued, Plain, zero_alone, digits}
use Rattle.definitions.specs.Log.{digits_in, decimal, line_of, mb_word, sync_word, answer_pieces, macroblock_line, sync_line, picture_lines, no_picture_line, refused_line}
use Rattle.definitions.specs.Raster.{full_count}
use Rattle.definitions.proofs.Choices.{yes, no, up_to-length}

-- ---- Numbers in decimal
digits-enough : (m k n : ℕ) → n < m → n < k → digits_in m n ≡ digits_in k n
unfolding digits_in pick
digits-enough zero k n h i = absurd (omega arith)
digits-enough (suc m) zero n h i = absurd (omega arith)
digits-enough (suc m) (suc k) n h i = by (ltb n 10) refl (λ l. digits-enough m k (n / 10) (omega arith) (omega arith))
  where
    by : (t : Bool) → ltb n 10 ≡ t → (10 ≤ n → digits_in m (n / 10) ≡ digits_in k (n / 10))
        → pick t ((48 + n) ∷ []) (digits_in m (n / 10) ++ ((48 + n % 10) ∷ [])) ≡ pick t ((48 + n) ∷ []) (digits_in k (n / 10) ++ ((48 + n % 10) ∷ []))
    by true e f = refl
    by false e f = ap (λ (l : List ℕ). l ++ ((48 + n % 10) ∷ [])) (f (ltb-false n 10 e))

pub decimal-one : (n : ℕ) → n < 10 → decimal n ≡ (48 + n) ∷ []
unfolding decimal digits_in
decimal-one n h = yes _ _ (lt-ltb n 10 h)

pub decimal-more : (n : ℕ) → 10 ≤ n → decimal n ≡ decimal (n / 10) ++ ((48 + n % 10) ∷ [])
unfolding decimal digits_in
decimal-more n h =
    no _ _ (le-ltb n 10 h)
    ∙ ap (λ (l : List ℕ). l ++ ((48 + n % 10) ∷ [])) (digits-enough n (suc (n / 10)) (n / 10) (omega arith) (omega arith))

-- a number in decimal is what the grammar reads as that number, with no leading zero
valued-last : (a : ℕ) (t : List ℕ) (c : ℕ) → valued a (t ++ (c ∷ [])) ≡ 10 * valued a t + (c - 48)
valued-last a [] c = refl
valued-last a (x ∷ t) c = valued-last (10 * a + (x - 48)) t c

digit-last : (t : List ℕ) (c : ℕ) → All Digit t → Digit c → All Digit (t ++ (c ∷ []))
digit-last [] c none d = each d none
digit-last (x ∷ t) c (each p h) d = each p (digit-last t c h d)

plain-last : {n : ℕ} {t : List ℕ} (d : ℕ) → Plain n t → 1 ≤ n → d < 10 → Plain (10 * n + d) (t ++ ((48 + d) ∷ []))
plain-last d zero_alone l h = absurd (omega arith)
plain-last d (digits {c = c} {t = t} low high all) l h =
    let e : valued (c - 48) (t ++ ((48 + d) ∷ [])) ≡ 10 * valued (c - 48) t + d = omega (arith, valued-last (c - 48) t (48 + d)) in
    subst (λ (n : ℕ). Plain n (c ∷ (t ++ ((48 + d) ∷ [])))) e (digits low high (digit-last t (48 + d) all (omega arith, omega arith)))

plain-one : (n : ℕ) → n < 10 → Plain n ((48 + n) ∷ [])
plain-one zero h = zero_alone
plain-one (suc n) h =
    let e : 48 + suc n - 48 ≡ suc n = omega arith in
    subst (λ (k : ℕ). Plain k ((48 + suc n) ∷ [])) e (digits (omega arith) (omega arith) none)

plain_in : (m n : ℕ) → n < m → Plain n (decimal n)
plain_in zero n h = absurd (omega arith)
plain_in (suc m) n h = by (ltb n 10) refl (λ l. plain_in m (n / 10) (omega arith))
  where
    by : (t : Bool) → ltb n 10 ≡ t → (10 ≤ n → Plain (n / 10) (decimal (n / 10))) → Plain n (decimal n)
    by true e f = let l : n < 10 = ltb-true n 10 e in rw (decimal-one n l) (plain-one n l)
    by false e f =
        let l : 10 ≤ n = ltb-false n 10 e in
        let s : 10 * (n / 10) + n % 10 ≡ n = omega arith in
        rw (decimal-more n l)
        (subst (λ (k : ℕ). Plain k (decimal (n / 10) ++ ((48 + n % 10) ∷ []))) s (plain-last (n % 10) (f l) (omega arith) (omega arith)))

pub decimal-plain : (n : ℕ) → Plain n (decimal n)
decimal-plain n = plain_in (suc n) n (omega arith)

-- ---- How long a line can be
short-more : (k b : ℕ) → ((q : ℕ) → q < b → length (decimal q) ≤ k) → (n : ℕ) → n < 10 * b → length (decimal n) ≤ k + 1
short-more k b f n h = by (ltb n 10) refl
  where
    by : (t : Bool) → ltb n 10 ≡ t → length (decimal n) ≤ k + 1
    by true e = let l : n < 10 = ltb-true n 10 e in rw (decimal-one n l) (omega arith)
    by false e =
        let l : 10 ≤ n = ltb-false n 10 e in
        rw (decimal-more n l) (omega (arith, length-append (decimal (n / 10)) ((48 + n % 10) ∷ []), f (n / 10) (omega arith)))

pub digits1 : (n : ℕ) → n < 10 → length (decimal n) ≤ 1
digits1 n h = rw (decimal-one n h) (omega arith)

pub digits2 : (n : ℕ) → n < 100 → length (decimal n) ≤ 2
digits2 = short-more 1 10 digits1

pub digits3 : (n : ℕ) → n < 1000 → length (decimal n) ≤ 3
digits3 = short-more 2 100 digits2

digits4 : (n : ℕ) → n < 10000 → length (decimal n) ≤ 4
digits4 = short-more 3 1000 digits3

pub digits5 : (n : ℕ) → n < 100000 → length (decimal n) ≤ 5
digits5 = short-more 4 10000 digits4

-- (mb column row type pieces)
pub mb-short : (column row type pieces : ℕ) → column < 256 → row < 256 → type < 10 → pieces < 100 → length (line_of mb_word (column ∷ row ∷ type ∷ pieces ∷ [])) ≤ 18
unfolding line_of
mb-short column row type pieces a b c d =
    simp length-append (omega (arith, digits3 column (omega arith), digits3 row (omega arith), digits1 type c, digits2 pieces d))

-- (sync macroblocks inherited intra outside)
pub sync-short : (a b c d : ℕ) → a ≤ 65536 → b ≤ 65536 → c ≤ 65536 → d ≤ 65536 → length (line_of sync_word (a ∷ b ∷ c ∷ d ∷ [])) ≤ 31
unfolding line_of
sync-short a b c d p q r s =
    simp length-append (omega (arith, digits5 a (omega arith), digits5 b (omega arith), digits5 c (omega arith), digits5 d (omega arith)))

-- (refused number place)
pub refused-short : (r : Refusal) → r.number < 100 → r.place ≤ 65536 → length (refused_line r) ≤ 31
unfolding refused_line line_of
refused-short r p q = simp length-append (omega (arith, digits2 r.number p, digits5 r.place (omega arith)))

-- an answer's type and pieces
pub type-low : (a : Answer) → answer_type a < 10
type-low Outside = omega arith
type-low (Intra n) = omega arith
type-low (Inherited n S16x16) = omega arith
type-low (Inherited n S16x8) = omega arith
type-low (Inherited n S8x16) = omega arith
type-low (Inherited n (Quarters t)) = omega arith

sub_low : (s : SubSplit) → sub_count s ≤ 4
sub_low S8x8 = omega arith
sub_low S8x4 = omega arith
sub_low S4x8 = omega arith
sub_low S4x4 = omega arith

pub pieces-low : (a : Answer) → answer_pieces a ≤ 16
pieces-low Outside = omega arith
pieces-low (Intra n) = omega arith
pieces-low (Inherited n S16x16) = omega arith
pieces-low (Inherited n S16x8) = omega arith
pieces-low (Inherited n S8x16) = omega arith
pieces-low (Inherited n (Quarters t)) = omega (arith, sub_low t.a, sub_low t.b, sub_low t.c, sub_low t.d)

-- ---- The lines of a picture are no refusal
no-r : (g : Axes) (base : List ℤ) (l : List ℕ) → get_or (for_each l (macroblock_line g base) ++ sync_line g base) 1 0 ≡ 114 → ⊥
unfolding macroblock_line sync_line line_of
no-r g base [] e = omega arith
no-r g base (x ∷ xs) e = omega arith

pub lines-differ : (g : Axes) (base : List ℤ) (r : Refusal) → picture_lines g base ≡ refused_line r → ⊥
unfolding picture_lines refused_line line_of
lines-differ g base r e = no-r g base (up_to (full_count g) (λ a. a)) (ap (λ (l : List ℕ). get_or l 1 0) e)

-- nor that of no picture, which is the line of no picture made
pub empty-differs : (r : Refusal) → no_picture_line ≡ refused_line r → ⊥
unfolding no_picture_line refused_line line_of
empty-differs r e = let z : ◌≡◌ {A = ℕ} 115 114 = ap (λ (l : List ℕ). get_or l 1 0) e in omega (arith, z)

no-s : (g : Axes) (base : List ℤ) (l : List ℕ) → 0 < length l → get_or (for_each l (macroblock_line g base) ++ sync_line g base) 1 0 ≡ 115 → ⊥
unfolding macroblock_line line_of
no-s g base [] h e = omega (arith, h)
no-s g base (x ∷ xs) h e = omega arith

pub made-differ : (g : Axes) (base : List ℤ) → 0 < full_count g → picture_lines g base ≡ no_picture_line → ⊥
unfolding picture_lines no_picture_line line_of
made-differ g base h e =
    no-s g base (up_to (full_count g) (λ a. a)) (subst (λ (k : ℕ). 0 < k) (sym (up_to-length (full_count g) (λ a. a))) h) (ap (λ (l : List ℕ). get_or l 1 0) e)

-- ---- The line of a refusal tells its number
-- digits end where the space stands
digits_same : (s t u v : List ℕ) → All Digit s → All Digit t → s ++ (32 ∷ u) ≡ t ++ (32 ∷ v) → s ≡ t
digits_same [] [] u v none none e = refl
digits_same [] (y ∷ t) u v none (each q k) e = let z : 32 ≡ y = ap (λ (l : List ℕ). get_or l 0 0) e in absurd (omega (arith, z, q.0))
digits_same (x ∷ s) [] u v (each p h) none e = let z : x ≡ 32 = ap (λ (l : List ℕ). get_or l 0 0) e in absurd (omega (arith, z, p.0))
digits_same (x ∷ s) (y ∷ t) u v (each p h) (each q k) e =
    let a : x ≡ y = ap (λ (l : List ℕ). get_or l 0 0) e in
    let b = digits_same s t u v h k (ap (drop 1) e) in
    λ (i : 𝕀). a i ∷ b i

plain-digits : {n : ℕ} {t : List ℕ} → Plain n t → All Digit t
plain-digits zero_alone = each {c = 48} (omega arith, omega arith) none
plain-digits (digits {c = c} low high all) = each {c = c} (omega arith, omega arith) all

plain-worth : {n : ℕ} {t : List ℕ} → Plain n t → valued 0 t ≡ n
plain-worth zero_alone = refl
plain-worth (digits {c = c} {t = t} low high all) = let e : 10 * 0 + (c - 48) ≡ c - 48 = omega arith in ap (λ (a : ℕ). valued a t) e

pub refused-number : (r s : Refusal) → refused_line r ≡ refused_line s → r.number ≡ s.number
unfolding refused_line line_of
refused-number r s e =
    let a = decimal-plain r.number in
    let b = decimal-plain s.number in
    let f : decimal r.number ++ (32 ∷ tail r) ≡ decimal s.number ++ (32 ∷ tail s) =
    sym (append_assoc (decimal r.number) _ _) ∙ (ap (drop 9) e ∙ append_assoc (decimal s.number) _ _) in
    sym (plain-worth a) ∙ (ap (valued 0) (digits_same _ _ _ _ (plain-digits a) (plain-digits b) f) ∙ plain-worth b)
  where
    tail : Refusal → List ℕ
    tail r = (decimal r.place ++ []) ++ (41 ∷ 10 ∷ [])
