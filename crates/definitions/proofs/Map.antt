-- The block map along an axis, for every macroblock inside: it has a row, the columns (rows) that it names lie inside the base, the blocks read
-- those and no others, and each of those is read. Assumes nothing.
use Prim.Native.Nat.{ℕ, suc, ◌+◌, ◌*◌, ◌/◌, ◌%◌, ◌-◌, ◌≤◌, ◌<◌}
use mathlib.Core.Path.{◌≡◌, refl, sym, ap, subst, ◌∙◌}
use mathlib.Core.Bool.{Bool, true, false, not, ◌&&◌, ◌||◌, beq}
use mathlib.Core.List.Memᴰ
use mathlib.Core.List.{List, Memᴰ}
use mathlib.Core.Logic.{◌⊎◌, inl, inr, ⊎_elim}
use native.Mathlib.Nat.{eq-or-lt_of_le, eq-zero-or-pos}
use native.Mathlib.Omega.{arith}
use lib.Dec.{eqb, leb, ltb}
use lib.IntN.{ℤ, pos, nat_abs}
use lib.ListN.{length, get_or}
use lib.Signed.{lt_z}
use borrow.Author.Tests.{eqb-true, eqb-false, le-leb, ltb-true}
use Rattle.definitions.specs.Accepted.{Inside}
use Rattle.definitions.specs.Basics.{pick, minus, all_below}
use Rattle.definitions.specs.Geometry.{k_of, p_of, d1_of, d2_of, rounded_of, even, m_of, n_of, f_of, two_of, columns_read, macroblocks, class_of}
use Rattle.definitions.specs.BlockMap.{digits_of, coordinate_of}
use Rattle.definitions.specs.Answer.{two_columns, two_rows}
use Rattle.definitions.proofs.Choices.{pick-cases, both_true, either_true, implies, implied, below_true}
use Rattle.definitions.proofs.Differences.{sub-pos, sub_cases}
use Rattle.definitions.proofs.Positions.{near, first_edge, last-edge, m-even, n-even, m-odd, n-odd}

-- ---- D1 = −4i and D2 = 4j: how many fours p(k) lies before c and p(k+1) behind it, to the nearest
abbrev pub fours_before : ℕ → ℕ → ℕ → ℕ
fours_before b s c = (c + 2 - p_of b s (k_of b s c)) / 4

abbrev pub fours_behind : ℕ → ℕ → ℕ → ℕ
fours_behind b s c = (p_of b s (k_of b s c + 1) + 2 - c) / 4

-- the sixteen pairs i, j
pub record Paired (i j : ℕ) : Type 0 where
  pub i-top : i < 5
  pub j-top : j < 5
  pub sum_low : 2 ≤ i + j
  pub sum-high : i + j ≤ 5

-- a test computed on them, and so its rule
abbrev pub on_pairs : (ℕ → ℕ → Bool) → Bool
on_pairs f = all_below 5 (λ i. all_below 5 (λ j. implies (leb 2 (i + j)) (implies (leb (i + j) 5) (f i j))))

pub on-pair : (f : ℕ → ℕ → Bool) → on_pairs f ≡ true → (i j : ℕ) → Paired i j → f i j ≡ true
on-pair f t i j p =
    implied _ _ (implied _ _ (below_true 5 _ (below_true 5 _ t i p.i-top) j p.j-top) (le-leb 2 (i + j) p.sum_low)) (le-leb (i + j) 5 p.sum-high)

module _ (b s c : ℕ) (a : Inside b s c) where
  pub paired : Paired (fours_before b s c) (fours_behind b s c)
  paired =
      let n = near b s c a in
      record { i-top = omega arith; j-top = omega arith; sum_low = omega arith; sum-high = omega arith }

  pub d1-rounded : rounded_of (d1_of b s c) ≡ minus (4 * fours_before b s c)
  d1-rounded =
      let n = near b s c a in
      sub_cases (λ z. rounded_of z ≡ minus (4 * fours_before b s c)) (p_of b s (k_of b s c)) c
      (λ l. let e : (suc (c - suc (p_of b s (k_of b s c))) + 2) / 4 ≡ fours_before b s c = omega arith in ap (λ (x : ℕ). minus (4 * x)) e)
      (λ l. let e : (p_of b s (k_of b s c) - c + 2) / 4 ≡ 0 = omega arith in let z : fours_before b s c ≡ 0 = omega arith in ap (λ (x : ℕ). pos (4 * x)) e ∙ ap (λ (x : ℕ). minus (4 * x)) (sym z))

  pub d2-rounded : rounded_of (d2_of b s c) ≡ pos (4 * fours_behind b s c)
  d2-rounded =
      let n = near b s c a in
      let q = p_of b s (k_of b s c + 1) in
      let e : (q - c + 2) / 4 ≡ fours_behind b s c = omega arith in
      ap rounded_of (sub-pos q c (omega arith)) ∙ ap (λ (x : ℕ). pos (4 * x)) e

-- ---- the row of i and j
-- M and N
abbrev pub border_at : Bool → ℕ → ℕ → ℤ
border_at k-even i j = pick k-even (minus (4 * i)) (pos (4 * j))

abbrev pub border8_at : Bool → ℕ → ℕ → ℤ
border8_at k-even i j = pick k-even (pos (4 * j)) (minus (4 * i))

-- its digits
abbrev pub digits_at : Bool → ℕ → ℕ → List ℕ
digits_at k-even i j = digits_of k-even (border_at k-even i j) (border8_at k-even i j)

abbrev pub digit_at : Bool → ℕ → ℕ → ℕ → ℕ
digit_at k-even i j n = get_or (digits_at k-even i j) n 0

-- two columns are read: |M| < 8
abbrev pub two_at : Bool → ℕ → ℕ → Bool
two_at k-even i j = ltb (pick k-even i j) 2

same_true : (s t : Bool) → beq s t ≡ true → s ≡ t
same_true true true e = refl
same_true true false e = cc
same_true false true e = cc
same_true false false e = refl

-- a column is 0, or 1 where two are read
zero_or_one : Bool → ℕ → Bool
zero_or_one two x = eqb x 0 || two && eqb x 1

zero-or-one : (two : Bool) (x : ℕ) → zero_or_one two x ≡ true → (x ≡ 0) ⊎ ((two ≡ true) × (x ≡ 1))
unfolding zero_or_one
zero-or-one two x e =
    ⊎_elim (λ z. inl (eqb-true x 0 z)) (λ o. let both = both_true two (eqb x 1) o in inr (both.0, eqb-true x 1 both.1)) (either_true (eqb x 0) (two && eqb x 1) e)

-- Each row has four digits; |M| < 8 and, k even, M > −8 say one thing; each digit leads to F, or to F + 1 where two are read; the first leads to
-- F, and the last to F + 1 where two are read.
row_right : Bool → ℕ → ℕ → Bool
row_right k-even i j =
    let two = two_at k-even i j in
    eqb (length (digits_at k-even i j)) 4
    && (beq (not (leb 8 (nat_abs (border_at k-even i j)))) two
    && (beq (k-even && lt_z (minus 8) (border_at k-even i j)) (k-even && two)
    && (all_below 4 (λ n. zero_or_one two (digit_at k-even i j n / 4))
    && (eqb (digit_at k-even i j 0 / 4) 0 && implies two (eqb (digit_at k-even i j 3 / 4) 1)))))

rows_right : (k-even : Bool) → on_pairs (row_right k-even) ≡ true
unfolding all_below implies zero_or_one row_right pick digits_of
rows_right true = refl
rows_right false = refl

-- what the test says of one row
record Right (k-even : Bool) (i j : ℕ) : Type 0 where
  digits : length (digits_at k-even i j) ≡ 4
  two : not (leb 8 (nat_abs (border_at k-even i j))) ≡ two_at k-even i j
  back : (k-even && lt_z (minus 8) (border_at k-even i j)) ≡ (k-even && two_at k-even i j)
  each-named : (n : ℕ) → n < 4 → (digit_at k-even i j n / 4 ≡ 0) ⊎ ((two_at k-even i j ≡ true) × (digit_at k-even i j n / 4 ≡ 1))
  first_read : digit_at k-even i j 0 / 4 ≡ 0
  last-read : two_at k-even i j ≡ true → digit_at k-even i j 3 / 4 ≡ 1

right : (k-even : Bool) (i j : ℕ) → Paired i j → Right k-even i j
unfolding row_right
right k-even i j p =
    let t₁ = both_true _ _ (on-pair (row_right k-even) (rows_right k-even) i j p) in
    let t₂ = both_true _ _ t₁.1 in
    let t₃ = both_true _ _ t₂.1 in
    let t₄ = both_true _ _ t₃.1 in
    let t₅ = both_true _ _ t₄.1 in
    record {
      digits = eqb-true _ 4 t₁.0;
      two = same_true _ _ t₂.0;
      back = same_true _ _ t₃.0;
      each-named = λ n h. zero-or-one _ _ (below_true 4 (λ m. zero_or_one (two_at k-even i j) (digit_at k-even i j m / 4)) t₄.0 n h);
      first_read = eqb-true _ 0 t₅.0;
      last-read = λ e. eqb-true _ 1 (implied _ _ t₅.1 e);
    }

-- The row -M,-N of odd k is the row M,N of even k read from the other end: blocks and coordinates count from the other end of the columns read. So a wrong digit in
-- one half of the map shows against the other half.
mirror_right : ℕ → ℕ → Bool
mirror_right i j = all_below 4 (λ n. eqb (digit_at false j i n + digit_at true i j (3 - n)) (pick (two_at true i j) 7 3))

mirrors-right : on_pairs mirror_right ≡ true
unfolding all_below implies mirror_right pick digits_of
mirrors-right = refl

pub mirrored : (i j n : ℕ) → Paired i j → n < 4 → digit_at false j i n + digit_at true i j (3 - n) ≡ pick (two_at true i j) 7 3
unfolding mirror_right
mirrored i j n p h =
    eqb-true _ _ (below_true 4 (λ m. eqb (digit_at false j i m + digit_at true i j (3 - m)) (pick (two_at true i j) 7 3)) (on-pair mirror_right mirrors-right i j p) n h)

-- ---- a macroblock inside
module _ (b s c : ℕ) (a : Inside b s c) where
  pub m-is : m_of b s c ≡ border_at (even (k_of b s c)) (fours_before b s c) (fours_behind b s c)
  unfolding pick
  m-is = go (even (k_of b s c)) refl
    where
      go : (t : Bool) → even (k_of b s c) ≡ t → m_of b s c ≡ border_at t (fours_before b s c) (fours_behind b s c)
      go true e = m-even b s c e ∙ d1-rounded b s c a
      go false e = m-odd b s c e ∙ d2-rounded b s c a

  pub n-is : n_of b s c ≡ border8_at (even (k_of b s c)) (fours_before b s c) (fours_behind b s c)
  unfolding pick
  n-is = go (even (k_of b s c)) refl
    where
      go : (t : Bool) → even (k_of b s c) ≡ t → n_of b s c ≡ border8_at t (fours_before b s c) (fours_behind b s c)
      go true e = n-even b s c e ∙ d2-rounded b s c a
      go false e = n-odd b s c e ∙ d1-rounded b s c a

  pub digits-is : digits_of (even (k_of b s c)) (m_of b s c) (n_of b s c) ≡ digits_at (even (k_of b s c)) (fours_before b s c) (fours_behind b s c)
  digits-is = λ t. digits_of (even (k_of b s c)) (m-is t) (n-is t)

  found : Right (even (k_of b s c)) (fours_before b s c) (fours_behind b s c)
  found = right (even (k_of b s c)) (fours_before b s c) (fours_behind b s c) (paired b s c a)

  -- there is a row
  pub row_of : length (digits_of (even (k_of b s c)) (m_of b s c) (n_of b s c)) ≡ 4
  row_of = ap length digits-is ∙ found.digits

  pub two_is : two_of b s c ≡ two_at (even (k_of b s c)) (fours_before b s c) (fours_behind b s c)
  unfolding two_of
  two_is = ap (λ (m : ℤ). not (leb 8 (nat_abs m))) m-is ∙ found.two

  pub f-is : f_of b s c ≡ pick (even (k_of b s c) && two_of b s c) (k_of b s c / 2 - 1) (k_of b s c / 2)
  unfolding f_of
  f-is =
      ap (λ (t : Bool). pick t (k_of b s c / 2 - 1) (k_of b s c / 2))
      (ap (λ (m : ℤ). even (k_of b s c) && lt_z (minus 8) m) m-is ∙ (found.back ∙ ap (λ (t : Bool). even (k_of b s c) && t) (sym two_is)))

  -- where two are read, the place that M rounds is not the base's edge: k is not 0 where F is k/2 − 1, nor the last where it is k/2
  m-near : two_of b s c ≡ true → {u : Bool} → even (k_of b s c) ≡ u → pick u (fours_before b s c) (fours_behind b s c) < 2
  m-near t e = ltb-true _ 2 (ap (λ (u : Bool). two_at u (fours_before b s c) (fours_behind b s c)) (sym e) ∙ (sym two_is ∙ t))

  pub not_first : two_of b s c ≡ true → even (k_of b s c) ≡ true → 2 ≤ k_of b s c
  unfolding pick
  not_first t e =
      let l = m-near t e in
      let r : k_of b s c % 2 ≡ 0 = eqb-true _ 0 e in
      ⊎_elim (λ z. let edge = first_edge b s c a z in absurd (omega arith)) (λ h. omega arith) (eq-zero-or-pos (k_of b s c))

  pub not_last : two_of b s c ≡ true → even (k_of b s c) ≡ false → k_of b s c + 1 < b / 8
  unfolding pick
  not_last t e =
      let l = m-near t e in
      let h : k_of b s c + 1 ≤ b / 8 = omega (arith, near b s c a) in
      ⊎_elim (λ z. let k-last : k_of b s c ≡ b / 8 - 1 = omega arith in let edge = last-edge b s c a k-last in absurd (omega arith)) (λ h'. h') (eq-or-lt_of_le h)

  -- F, and F + 1 where two are read, lie inside the base
  pub f-below : f_of b s c < macroblocks b
  f-below =
      let n = near b s c a in
      subst (λ (f : ℕ). f < macroblocks b) (sym f-is) (pick-cases (λ f. f < macroblocks b) _ _ _ (λ e. omega arith) (λ e. omega arith))

  pub two-below : two_of b s c ≡ true → f_of b s c + 1 < macroblocks b
  unfolding pick
  two-below t = subst (λ (f : ℕ). f + 1 < macroblocks b) (sym f-is) (go (even (k_of b s c)) refl)
    where
      go : (u : Bool) → even (k_of b s c) ≡ u → pick (even (k_of b s c) && two_of b s c) (k_of b s c / 2 - 1) (k_of b s c / 2) + 1 < macroblocks b
      go true e =
          let n = near b s c a in
          rw (e, t) (omega (arith, not_first t e))
      go false e = rw e (omega (arith, not_last t e, eqb-false (k_of b s c % 2) 0 e))

  -- the column of block i's coordinate is F, or F + 1 where two are read
  pub read-column : (i : ℕ) → i < 4 → (coordinate_of b s c i / 4 ≡ f_of b s c) ⊎ ((two_of b s c ≡ true) × (coordinate_of b s c i / 4 ≡ f_of b s c + 1))
  unfolding coordinate_of
  read-column i h =
      let r = ap (λ (ds : List ℕ). get_or ds i 0) digits-is in
      ⊎_elim (λ e. inl (omega arith)) (λ e. inr (two_is ∙ e.0, omega (arith, e.1))) (found.each-named i h)

  pub read_named : (i : ℕ) → i < 4 → Memᴰ (coordinate_of b s c i / 4) (columns_read (f_of b s c) (two_of b s c))
  unfolding columns_read pick
  read_named i h = ⊎_elim (λ e. go (two_of b s c) e) (λ e. rw e.0 (Memᴰ.tail (Memᴰ.head e.1))) (read-column i h)
    where
      go : (t : Bool) → coordinate_of b s c i / 4 ≡ f_of b s c → Memᴰ (coordinate_of b s c i / 4) (columns_read (f_of b s c) t)
      go true e = Memᴰ.head e
      go false e = Memᴰ.head e

  -- and each column that is named is read
  pub named-read : {x : ℕ} → Memᴰ x (columns_read (f_of b s c) (two_of b s c)) → (i : ℕ) × (i < 4) × (coordinate_of b s c i / 4 ≡ x)
  unfolding columns_read pick coordinate_of
  named-read {x} m = go (two_of b s c) refl m
    where
      first : x ≡ f_of b s c → (i : ℕ) × (i < 4) × (coordinate_of b s c i / 4 ≡ x)
      first e =
          let r = ap (λ (ds : List ℕ). get_or ds 0 0) digits-is in
          (0, omega arith, omega (arith, found.first_read))

      go : (t : Bool) → two_of b s c ≡ t → Memᴰ x (columns_read (f_of b s c) t) → (i : ℕ) × (i < 4) × (coordinate_of b s c i / 4 ≡ x)
      go true t m =
          let r = ap (λ (ds : List ℕ). get_or ds 3 0) digits-is in
          ⊎_elim first (λ l. let e = Memᴰ.eq_of_singleton l in (3, omega arith, omega (arith, found.last-read (sym two_is ∙ t)))) (Memᴰ.cases_cons m)
      go false t m = first (Memᴰ.eq_of_singleton m)

  -- the columns that are named, and so the coordinates, lie inside the base
  pub named-below : {x : ℕ} → Memᴰ x (columns_read (f_of b s c) (two_of b s c)) → x < macroblocks b
  unfolding columns_read pick
  named-below {x} m = go (two_of b s c) refl m
    where
      go : (t : Bool) → two_of b s c ≡ t → Memᴰ x (columns_read (f_of b s c) t) → x < macroblocks b
      go true t m = ⊎_elim (λ e. omega (arith, f-below)) (λ l. let e = Memᴰ.eq_of_singleton l in omega (arith, two-below t)) (Memᴰ.cases_cons m)
      go false t m = let e = Memᴰ.eq_of_singleton m in omega (arith, f-below)

  pub coordinate-below : (i : ℕ) → i < 4 → coordinate_of b s c i < b / 4
  coordinate-below i h = omega (arith, named-below (read_named i h))

-- ---- both axes: the class says on which of them two are read
pub class-columns : (columns rows : Bool) → two_columns (class_of columns rows) ≡ columns
class-columns true true = refl
class-columns true false = refl
class-columns false true = refl
class-columns false false = refl

pub class-rows : (columns rows : Bool) → two_rows (class_of columns rows) ≡ rows
class-rows true true = refl
class-rows true false = refl
class-rows false true = refl
class-rows false false = refl
