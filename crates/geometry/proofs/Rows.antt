-- What one test over all rows of the block map says of each M and N that have a row; and a table that holds every row. Assumes nothing.
use Prim.Native.Nat.{ℕ, zero, suc, ◌/◌, ◌%◌, ◌≤◌}
use mathlib.Core.Path.{◌≡◌, refl, sym, ◌∙◌}
use mathlib.Core.Bool.{Bool, true, false, ◌&&◌, false≢true}
use mathlib.Core.List.{List, [], ◌∷◌}
use native.Mathlib.Omega.{arith}
use lib.Dec.{eqb, leb}
use lib.IntN.{ℤ, nat_abs}
use lib.ListN.{get_or, length}
use borrow.Author.Tests.{eqb-true, leb-true}
use Rattle.definitions.specs.BlockMap.{MapRow, row_digits, digits_of, map_rows}
use Rattle.definitions.specs.Geometry.{even}
use Rattle.definitions.specs.Basics.{eq_z, all_of}
use Rattle.definitions.proofs.Choices.{both_true, eq_z-true, pick-cases}
use Rattle.geometry.specs.Step.{Complete, decimals}

-- ---- a test of M, N and the digits, at each row
abbrev passes : (ℤ → ℤ → List ℕ → Bool) → List MapRow → Bool
passes P rows = all_of (λ r. P r.border r.border8 r.digits) rows

each_row : (P : ℤ → ℤ → List ℕ → Bool) (rows : List MapRow) → passes P rows ≡ true → (m n : ℤ) → length (row_digits rows m n) ≡ 4 → P m n (row_digits rows m n) ≡ true
unfolding all_of
each_row P [] e m n l = absurd (omega arith)
each_row P (r ∷ rs) e m n l =
    let tests = both_true (P r.border r.border8 r.digits) (passes P rs) e in
    pick-cases (λ ds. length ds ≡ 4 → P m n ds ≡ true) (eq_z r.border m && eq_z r.border8 n) r.digits (row_digits rs m n)
    (λ q h. let both = both_true (eq_z r.border m) (eq_z r.border8 n) q in (λ i. P (sym (eq_z-true r.border m both.0) i) (sym (eq_z-true r.border8 n both.1) i) r.digits) ∙ tests.0)
    (λ q h. each_row P rs tests.1 m n h)
    l

-- for k even and for k odd
abbrev every : (ℕ → ℤ → ℤ → List ℕ → Bool) → Bool
every P = passes (P 0) (map_rows true) && passes (P 1) (map_rows false)

at_row : (P : ℕ → ℤ → ℤ → List ℕ → Bool) → every P ≡ true → (k : ℕ) (m n : ℤ) → length (digits_of (even k) m n) ≡ 4 → P (k % 2) m n (digits_of (even k) m n) ≡ true
unfolding digits_of
at_row P e k m n l = go (k % 2) (omega arith) l
  where
    tests : (passes (P 0) (map_rows true) ≡ true) × (passes (P 1) (map_rows false) ≡ true)
    tests = both_true (passes (P 0) (map_rows true)) (passes (P 1) (map_rows false)) e

    go : (r : ℕ) → r ≤ 1 → length (row_digits (map_rows (eqb r 0)) m n) ≡ 4 → P r m n (row_digits (map_rows (eqb r 0)) m n) ≡ true
    go zero h l = each_row (P 0) (map_rows true) tests.0 m n l
    go (suc zero) h l = each_row (P 1) (map_rows false) tests.1 m n l
    go (suc (suc r)) h l = absurd (omega arith)

-- ---- |M| and |N| are at most 16
small : ℕ → ℤ → ℤ → List ℕ → Bool
small e m n digits = leb (nat_abs m) 16 && leb (nat_abs n) 16

all_small : every small ≡ true
unfolding small all_of
all_small = refl

pub tops : (k : ℕ) (m n : ℤ) → length (digits_of (even k) m n) ≡ 4 → (nat_abs m ≤ 16) × (nat_abs n ≤ 16)
unfolding small
tops k m n l =
    let both = both_true (leb (nat_abs m) 16) (leb (nat_abs n) 16) (at_row small all_small k m n l) in
    (leb-true _ 16 both.0, leb-true _ 16 both.1)

-- ---- a table by k % 2, |M| / 4 and |N| / 4
same : List ℕ → List ℕ → Bool
same [] [] = true
same [] (y ∷ ys) = false
same (x ∷ xs) [] = false
same (x ∷ xs) (y ∷ ys) = eqb x y && same xs ys

same_true : (xs ys : List ℕ) → same xs ys ≡ true → xs ≡ ys
unfolding same
same_true [] [] e = refl
same_true [] (y ∷ ys) e = absurd (false≢true e)
same_true (x ∷ xs) [] e = absurd (false≢true e)
same_true (x ∷ xs) (y ∷ ys) e =
    let both = both_true (eqb x y) (same xs ys) e in
    λ i. eqb-true x y both.0 i ∷ same_true xs ys both.1 i

holds : List (List (List ℕ)) → ℕ → ℤ → ℤ → List ℕ → Bool
holds table e m n digits = same (decimals (get_or (get_or (get_or table e []) (nat_abs m / 4) []) (nat_abs n / 4) 0)) digits

unfoldable pub holds_all : List (List (List ℕ)) → Bool
unfolding same holds all_of
holds_all table = every (holds table)

pub complete : (table : List (List (List ℕ))) → holds_all table ≡ true → Complete table
unfolding holds_all holds
complete table e = record { row = λ k m n l. same_true _ _ (at_row (holds table) e k m n l) }
