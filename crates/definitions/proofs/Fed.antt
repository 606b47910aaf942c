-- What fed a macroblock (document 02, E5): the counts are products of what falls in a column and in a row, they sum to sixteen, they say which macroblocks are named, and how many blocks
-- read intra ones. Assumes nothing.
use Prim.Native.Nat.{ℕ, zero, suc, ◌+◌, ◌*◌, ◌/◌, ◌%◌, ◌-◌, ◌≤◌, ◌<◌}
use mathlib.Core.Path.{◌≡◌, refl, sym, ap, subst, ◌∙◌}
use mathlib.Core.Bool.{Bool, true, false, not, ◌&&◌, false≢true}
use mathlib.Core.List.{List, ◌∷◌, [], Memᴰ}
use mathlib.Core.Logic.{◌⊎◌, inl, inr, ⊎_elim, ◌↔◌}
use native.Mathlib.Omega.{arith}
use lib.Dec.{eqb}
use lib.IntN.{ℤ}
use lib.ListN.{get_or}
use borrow.Author.Tests.{eqb-true, eq-eqb, ne_eqb}
use Rattle.definitions.specs.declared.Axis.{Axis}
use Rattle.definitions.specs.declared.Axes.{Axes}
use Rattle.definitions.specs.declared.AxisStep.{AxisStep}
use Rattle.definitions.specs.Accepted.{AcceptedAxis, AcceptedAxes, Inside}
use Rattle.definitions.specs.Basics.{pick, how_many}
use Rattle.definitions.specs.Geometry.{base_size, scaled_size, inside_axis, inside, c_of, f_of, two_of, columns_read, sample_of}
use Rattle.definitions.specs.BlockMap.{coordinate_of, column_of, falls_in, across, down, address_read, step_of}
use Rattle.definitions.specs.Inheriting.{reads_intra, blocks_reading_intra}
use Rattle.definitions.specs.Fed.{reads_at, blocks_reading, fed_at, sum_fed, FallsRight, intra_at, FedEntire}
use Rattle.definitions.proofs.Choices.{both_true, four-at}
use Rattle.definitions.proofs.Accepted.{inside-axis}
use Rattle.definitions.proofs.Map.{read-column, read_named, named-read}
use Rattle.definitions.proofs.StepOne.{on_bools, on_four, on-four}

-- ---- How often a test holds
at_most : (n : ℕ) (f : ℕ → Bool) → how_many n f ≤ n
unfolding how_many pick
at_most zero f = omega arith
at_most (suc n) f = go (f n) (at_most n f)
  where
    go : (t : Bool) → how_many n f ≤ n → how_many n f + pick t 1 0 ≤ suc n
    go true l = omega arith
    go false l = omega arith

-- where it holds once, and where it fails once
split-last : {i n : ℕ} → i < suc n → (i < n) ⊎ (i ≡ n)
split-last {i} {n} h = go (leq i n)
  where
    leq : (i n : ℕ) → (i < n) ⊎ (n ≤ i)
    leq zero zero = inr (omega arith)
    leq zero (suc n) = inl (omega arith)
    leq (suc i) zero = inr (omega arith)
    leq (suc i) (suc n) = ⊎_elim (λ l. inl (omega arith)) (λ l. inr (omega arith)) (leq i n)

    go : (i < n) ⊎ (n ≤ i) → (i < n) ⊎ (i ≡ n)
    go (inl l) = inl l
    go (inr l) = inr (omega arith)

some-low : (n : ℕ) (f : ℕ → Bool) (i : ℕ) → i < n → f i ≡ true → 1 ≤ how_many n f
unfolding how_many pick
some-low zero f i h e = absurd (omega arith)
some-low (suc n) f i h e =
    ⊎_elim (λ l. omega (arith, some-low n f i l e)) (λ q. let last : f n ≡ true = subst (λ (k : ℕ). f k ≡ true) q e in rw last (omega arith)) (split-last h)

some-missing : (n : ℕ) (f : ℕ → Bool) (i : ℕ) → i < n → f i ≡ false → how_many n f < n
unfolding how_many pick
some-missing zero f i h e = absurd (omega arith)
some-missing (suc n) f i h e = ⊎_elim (λ l. earlier (f n) (some-missing n f i l e)) (λ q. last (f n) (subst (λ (k : ℕ). f k ≡ false) q e)) (split-last h)
  where
    earlier : (t : Bool) → how_many n f < n → how_many n f + pick t 1 0 < suc n
    earlier true l = omega arith
    earlier false l = omega arith

    last : (t : Bool) → t ≡ false → how_many n f + pick t 1 0 < suc n
    last true q = absurd (false≢true (sym q))
    last false q = omega (arith, at_most n f)

some_at : (n : ℕ) (f : ℕ → Bool) → 1 ≤ how_many n f → (i : ℕ) × (i < n) × (f i ≡ true)
unfolding how_many pick
some_at zero f h = absurd (omega arith)
some_at (suc n) f h = go (f n) refl h (some_at n f)
  where
    go : (t : Bool) → f n ≡ t → 1 ≤ how_many n f + pick t 1 0 → (1 ≤ how_many n f → (i : ℕ) × (i < n) × (f i ≡ true)) → (i : ℕ) × (i < suc n) × (f i ≡ true)
    go true e l earlier = (n, omega arith, e)
    go false e l earlier = let r = earlier (omega arith) in (r.0, omega (arith, r.1), r.2)

all-many : (n : ℕ) (f : ℕ → Bool) → ((i : ℕ) → i < n → f i ≡ true) → how_many n f ≡ n
unfolding how_many pick
all-many zero f h = refl
all-many (suc n) f h =
    let e = all-many n f (λ i l. h i (omega arith)) in
    let last = h n (omega arith) in
    rw last (omega arith)

-- ---- Products
times-add : (t a b : ℕ) → t * (a + b) ≡ t * a + t * b
times-add t a b = omega arith

both-low : (m n : ℕ) → 1 ≤ m * n → (1 ≤ m) × (1 ≤ n)
both-low zero n h = absurd (omega arith)
both-low (suc m) zero h = absurd (omega arith)
both-low (suc m) (suc n) h = (omega arith, omega arith)

product-low : (m n : ℕ) → 1 ≤ m → 1 ≤ n → 1 ≤ m * n
product-low zero n h l = absurd (omega arith)
product-low (suc m) zero h l = absurd (omega arith)
product-low (suc m) (suc n) h l = omega arith

list : Bool → Bool → Bool → Bool → List Bool
list a b c d = a ∷ b ∷ c ∷ d ∷ []

is_product : List Bool → List Bool → Bool
is_product a b =
    eqb (how_many 16 (λ i. get_or a (i % 4) false && get_or b (i / 4) false)) (how_many 4 (λ i. get_or a i false) * how_many 4 (λ i. get_or b i false))

all_products : on_four (λ a b c d. on_four (λ e f g h. is_product (list a b c d) (list e f g h))) ≡ true
unfolding on_four on_bools is_product list how_many pick
all_products = refl

product_is : (a b : ℕ → Bool) → how_many 16 (λ i. a (i % 4) && b (i / 4)) ≡ how_many 4 a * how_many 4 b
unfolding is_product list how_many
product_is a b =
    eqb-true _ _ (on-four (λ e f g h. is_product (list (a 0) (a 1) (a 2) (a 3)) (list e f g h))
    (on-four (λ x y z w. on_four (λ e f g h. is_product (list x y z w) (list e f g h))) all_products (a 0) (a 1) (a 2) (a 3)) (b 0) (b 1) (b 2) (b 3))

-- two tests of which one holds, and no other, at each place
one_of_two : (n : ℕ) (f h : ℕ → Bool) → ((i : ℕ) → i < n → pick (f i) 1 0 + pick (h i) 1 0 ≡ 1) → how_many n f + how_many n h ≡ n
unfolding how_many
one_of_two zero f h e = refl
one_of_two (suc n) f h e =
    let p = one_of_two n f h (λ i l. e i (omega arith)) in
    let q = e n (omega arith) in
    omega arith

-- a test that holds as often as four others do together, each counted t, u, v or w times
four-counted : (n : ℕ) (t u v w : ℕ) (f a b c d : ℕ → Bool)
    → ((i : ℕ) → i < n → pick (f i) 1 0 ≡ t * pick (a i) 1 0 + u * pick (b i) 1 0 + v * pick (c i) 1 0 + w * pick (d i) 1 0)
    → how_many n f ≡ t * how_many n a + u * how_many n b + v * how_many n c + w * how_many n d
unfolding how_many
four-counted zero t u v w f a b c d e = omega arith
four-counted (suc n) t u v w f a b c d e =
    let p = four-counted n t u v w f a b c d (λ i l. e i (omega arith)) in
    let q = e n (omega arith) in
    let x = times-add t (how_many n a) (pick (a n) 1 0) in
    let y = times-add u (how_many n b) (pick (b n) 1 0) in
    let z = times-add v (how_many n c) (pick (c n) 1 0) in
    let o = times-add w (how_many n d) (pick (d n) 1 0) in
    omega arith

-- ---- An axis at a macroblock inside
module _ (a : Axis) (x : ℕ) (accepted : AcceptedAxis a) (within : inside_axis a (sample_of x) ≡ true) where
  abbrev b : ℕ
  b = base_size a

  abbrev s : ℕ
  s = scaled_size a

  abbrev c : ℕ
  c = c_of a (sample_of x)

  inside-here : Inside b s c
  inside-here = inside-axis a (sample_of x) accepted within

  -- block i falls in a column
  abbrev in-column : ℕ → ℕ → Bool
  in-column y i = eqb (column_of (coordinate_of b s c i)) y

  falls-is : (y : ℕ) → falls_in (step_of a (sample_of x)).reads y ≡ how_many 4 (in-column y)
  unfolding how_many step_of
  falls-is y = refl

  -- a column is named where some block falls in it
  falls-named : (y : ℕ) → 1 ≤ falls_in (step_of a (sample_of x)).reads y → Memᴰ y (columns_read (step_of a (sample_of x)).first (step_of a (sample_of x)).two)
  unfolding step_of
  falls-named y h =
      let r = some_at 4 (in-column y) (omega (arith, falls-is y)) in
      subst (λ (z : ℕ). Memᴰ z (columns_read (f_of b s c) (two_of b s c))) (eqb-true _ _ r.2) (read_named b s c inside-here r.0 r.1)

  named-falls : (y : ℕ) → Memᴰ y (columns_read (step_of a (sample_of x)).first (step_of a (sample_of x)).two) → 1 ≤ falls_in (step_of a (sample_of x)).reads y
  unfolding step_of
  named-falls y m =
      let r = named-read b s c inside-here m in
      omega (arith, falls-is y, some-low 4 (in-column y) r.0 r.1 (eq-eqb _ _ r.2))

  -- the column of a coordinate that is read is the first or the next
  pub read-either : (i : ℕ) → i < 4 → (column_of (get_or (step_of a (sample_of x)).reads i 0) ≡ (step_of a (sample_of x)).first) ⊎ (column_of (get_or (step_of a (sample_of x)).reads i 0) ≡ (step_of a (sample_of x)).first + 1)
  unfolding step_of
  read-either i h =
      let e = four-at (coordinate_of b s c) 0 i h in
      ⊎_elim (λ q. inl (ap column_of e ∙ q)) (λ q. inr (ap column_of e ∙ q.1)) (read-column b s c inside-here i h)

  -- so each block falls in one of the two
  falls-all : falls_in (step_of a (sample_of x)).reads (step_of a (sample_of x)).first + falls_in (step_of a (sample_of x)).reads ((step_of a (sample_of x)).first + 1) ≡ 4
  unfolding step_of pick
  falls-all =
      let p = one_of_two 4 (in-column (f_of b s c)) (in-column (f_of b s c + 1)) (λ i h. either i (⊎_elim (λ e. inl e) (λ e. inr e.1) (read-column b s c inside-here i h))) in
      omega (arith, falls-is (f_of b s c), falls-is (f_of b s c + 1))
    where
      either : (i : ℕ) → (coordinate_of b s c i / 4 ≡ f_of b s c) ⊎ (coordinate_of b s c i / 4 ≡ f_of b s c + 1) → pick (in-column (f_of b s c) i) 1 0 + pick (in-column (f_of b s c + 1) i) 1 0 ≡ 1
      either i (inl e) = rw (eq-eqb _ _ e, ne_eqb (column_of (coordinate_of b s c i)) (f_of b s c + 1) (λ q. absurd (omega arith)))
      either i (inr e) = rw (eq-eqb _ _ e, ne_eqb (column_of (coordinate_of b s c i)) (f_of b s c) (λ q. absurd (omega arith)))

  pub falls-right : FallsRight (step_of a (sample_of x))
  unfolding step_of columns_read how_many pick
  falls-right =
      record {
        one = λ t. all-many 4 (in-column (f_of b s c)) (λ i h. eq-eqb _ _ (⊎_elim (λ e. e) (λ e. cc (sym t ∙ e.0)) (read-column b s c inside-here i h)));
        two = λ t. (
          let r = named-read b s c inside-here (first-named t) in
              some-low 4 (in-column (f_of b s c)) r.0 r.1 (eq-eqb _ _ r.2),
          let r = named-read b s c inside-here (second-named t) in
              omega (arith, some-missing 4 (in-column (f_of b s c)) r.0 r.1 (ne_eqb (column_of (coordinate_of b s c r.0)) (f_of b s c) (λ e. absurd (omega (arith, r.2))))),
        );
        rest = falls-all;
      }
    where
      first-named : two_of b s c ≡ true → Memᴰ (f_of b s c) (columns_read (f_of b s c) (two_of b s c))
      first-named t = rw t (Memᴰ.head refl)

      second-named : two_of b s c ≡ true → Memᴰ (f_of b s c + 1) (columns_read (f_of b s c) (two_of b s c))
      second-named t = rw t (Memᴰ.tail (Memᴰ.head refl))

-- the step's count, by which it says whether two columns are read
module _ (a : Axis) (x : ℕ) (accepted : AcceptedAxis a) (within : inside_axis a (sample_of x) ≡ true) where
  abbrev step : AxisStep
  step = step_of a (sample_of x)

  pub falls-first : step.falls ≡ falls_in step.reads step.first
  unfolding step_of
  falls-first = refl

  pub falls-next : falls_in step.reads (step.first + 1) ≡ 4 - step.falls
  falls-next = omega (arith, (falls-right a x accepted within).rest)

  pub falls-low : step.falls ≤ 4
  falls-low = omega (arith, (falls-right a x accepted within).rest)

  pub two-by-falls : step.two ≡ not (eqb step.falls 4)
  two-by-falls = go step.two refl
    where
      go : (t : Bool) → step.two ≡ t → t ≡ not (eqb step.falls 4)
      go true e = sym (ap not (ne_eqb step.falls 4 (λ q. absurd (omega (arith, ((falls-right a x accepted within).two e).1)))))
      go false e = sym (ap not (eq-eqb step.falls 4 ((falls-right a x accepted within).one e)))

-- ---- Both axes
-- what stands at a column and row, each the first or the next, by which of the four it is
at_one : (x y p q : ℕ) (f : ℕ → ℕ → ℕ) → (x ≡ p) ⊎ (x ≡ p + 1) → (y ≡ q) ⊎ (y ≡ q + 1)
    → f x y
    ≡ f p q * pick (eqb x p && eqb y q) 1 0 + f (p + 1) q * pick (eqb x (p + 1) && eqb y q) 1 0 + f p (q + 1) * pick (eqb x p && eqb y (q + 1)) 1 0
    + f (p + 1) (q + 1) * pick (eqb x (p + 1) && eqb y (q + 1)) 1 0
unfolding pick
at_one x y p q f (inl e) (inl d) =
    rw (eq-eqb x p e, ne_eqb x (p + 1) (λ z. absurd (omega arith)), eq-eqb y q d, ne_eqb y (q + 1) (λ z. absurd (omega arith))) ((λ i. f (e i) (d i)) ∙ omega arith)
at_one x y p q f (inl e) (inr d) =
    rw (eq-eqb x p e, ne_eqb x (p + 1) (λ z. absurd (omega arith)), eq-eqb y (q + 1) d, ne_eqb y q (λ z. absurd (omega arith))) ((λ i. f (e i) (d i)) ∙ omega arith)
at_one x y p q f (inr e) (inl d) =
    rw (eq-eqb x (p + 1) e, ne_eqb x p (λ z. absurd (omega arith)), eq-eqb y q d, ne_eqb y (q + 1) (λ z. absurd (omega arith))) ((λ i. f (e i) (d i)) ∙ omega arith)
at_one x y p q f (inr e) (inr d) =
    rw (eq-eqb x (p + 1) e, ne_eqb x p (λ z. absurd (omega arith)), eq-eqb y (q + 1) d, ne_eqb y q (λ z. absurd (omega arith))) ((λ i. f (e i) (d i)) ∙ omega arith)

module _ (g : Axes) (column row : ℕ) where
  abbrev h : AxisStep
  h = step_of g.horizontal (sample_of column)

  abbrev v : AxisStep
  v = step_of g.vertical (sample_of row)

  pub reading-product : (x y : ℕ) → blocks_reading g column row x y ≡ falls_in h.reads x * falls_in v.reads y
  unfolding blocks_reading
  reading-product x y = product_is (λ i. eqb (column_of (get_or h.reads i 0)) x) (λ i. eqb (column_of (get_or v.reads i 0)) y)

  module _ (accepted : AcceptedAxes g) (within : inside g column row ≡ true) where
    abbrev both : (inside_axis g.horizontal (sample_of column) ≡ true) × (inside_axis g.vertical (sample_of row) ≡ true)
    both = both_true (inside_axis g.horizontal (sample_of column)) (inside_axis g.vertical (sample_of row)) within

    fed-sum : sum_fed (fed_at g column row) ≡ 16
    unfolding fed_at
    fed-sum =
        let p = falls-all g.horizontal column accepted.horizontal both.0 in
        let q = falls-all g.vertical row accepted.vertical both.1 in
        (λ i. reading-product h.first v.first i + reading-product (h.first + 1) v.first i + reading-product h.first (v.first + 1) i + reading-product (h.first + 1) (v.first + 1) i)
        ∙ sixteen (falls_in h.reads h.first) (falls_in h.reads (h.first + 1)) (falls_in v.reads v.first) (falls_in v.reads (v.first + 1)) p q
      where
        sixteen : (a b c d : ℕ) → a + b ≡ 4 → c + d ≡ 4 → a * c + b * c + a * d + b * d ≡ 16
        sixteen a b c d p q =
            let m : a * c + b * c + a * d + b * d ≡ (a + b) * (c + d) = omega arith in
            m ∙ (λ i. p i * q i)

    fed-named : (x y : ℕ) → (1 ≤ blocks_reading g column row x y) ↔ (Memᴰ x (columns_read h.first h.two) × Memᴰ y (columns_read v.first v.two))
    fed-named x y = (
      λ l. let p = both-low (falls_in h.reads x) (falls_in v.reads y) (subst (λ (n : ℕ). 1 ≤ n) (reading-product x y) l) in
          (falls-named g.horizontal column accepted.horizontal both.0 x p.0, falls-named g.vertical row accepted.vertical both.1 y p.1),
      λ m. subst (λ (n : ℕ). 1 ≤ n) (sym (reading-product x y))
          (product-low (falls_in h.reads x) (falls_in v.reads y) (named-falls g.horizontal column accepted.horizontal both.0 x m.0) (named-falls g.vertical row accepted.vertical both.1 y m.1)),
    )

    fed-intra : (base : List ℤ)
        → blocks_reading_intra g base column row
        ≡ intra_at g base h.first v.first * (fed_at g column row).first + intra_at g base (h.first + 1) v.first * (fed_at g column row).right
        + intra_at g base h.first (v.first + 1) * (fed_at g column row).below + intra_at g base (h.first + 1) (v.first + 1) * (fed_at g column row).diagonal
    unfolding blocks_reading_intra fed_at blocks_reading address_read
    fed-intra base =
        four-counted 16 _ _ _ _ (reads_intra g base column row) (reads_at g column row h.first v.first) (reads_at g column row (h.first + 1) v.first)
        (reads_at g column row h.first (v.first + 1)) (reads_at g column row (h.first + 1) (v.first + 1))
        (λ i l.
        at_one (column_of (across g column i)) (column_of (down g row i)) h.first v.first (intra_at g base)
        (read-either g.horizontal column accepted.horizontal both.0 (i % 4) (omega arith))
        (read-either g.vertical row accepted.vertical both.1 (i / 4) (omega arith)))

pub fed-entire : FedEntire
fed-entire = record {
  axes = λ a x accepted within. falls-right a x accepted within;
  counts = λ g column row accepted within. record {
    sum = fed-sum g column row accepted within;
    named = fed-named g column row accepted within;
    products = reading-product g column row;
    intra = fed-intra g column row accepted within;
  };
}
