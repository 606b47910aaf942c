-- The addresses that a macroblock's call checks are those of its two runs (specs/Sited). Assumes nothing.
use Prim.Native.Nat.{ℕ, ◌+◌, ◌*◌, ◌≤◌, ◌<◌}
use mathlib.Core.Path.{◌≡◌, refl, sym, ap, subst, ◌∙◌}
use mathlib.Core.Bool.{Bool, true, false, ◌&&◌}
use mathlib.Core.List.Memᴰ
use mathlib.Core.List.{List, [], ◌∷◌, ◌++◌, map, append-nil, Memᴰ}
use native.Mathlib.Omega.{arith}
use lib.IntN.{ℤ}
use lib.ListN.{length}
use Rattle.definitions.specs.declared.Axes.{Axes}
use Rattle.macroblock.specs.declared.AxisRead.{AxisRead}
use Rattle.definitions.specs.declared.Refusal.{Refusal}
use Rattle.definitions.specs.Replies.{Verdict, Accepted}
use Rattle.std.specs.Prelude.{Err as Refused}
use Rattle.definitions.specs.Basics.{for_each, pick}
use Rattle.definitions.specs.Geometry.{base_size, columns_read, macroblocks}
use Rattle.definitions.specs.Record.{record_words}
use Rattle.definitions.specs.Answer.{addresses_of}
use Rattle.definitions.specs.Refusals.{Test, verdict_of, record_test, record_tests}
use Rattle.definitions.specs.Raster.{base_address}
use Rattle.definitions.proofs.Choices.{yes, no, both_true, and_intro, and_no}
use Rattle.definitions.proofs.Map.{class-columns, class-rows}
use Rattle.definitions.proofs.Verdicts.{then-verdict, refused-first}
use Rattle.records.specs.Checking.{addresses}
use Rattle.records.proofs.Addresses.{addresses-more, addresses-end, addresses-one}
use Rattle.macroblock.specs.declared.Fixed.{Fixed}
use Rattle.macroblock.specs.Made.{first_of, fixed_of, origin_by, read_of, two_read}
use Rattle.upsample.specs.declared.site.Run.{Run}
use Rattle.upsample.specs.declared.site.Site.{Site}
use Rattle.upsample.specs.Sited.{Placed, RunIn, run_of, runs_of, site_by, site_of}

-- the base macroblocks of one row that are read
abbrev pub row_addresses : Axes → ℕ → Bool → ℕ → List ℕ
row_addresses g first two row = map (λ column. base_address g column row) (columns_read first two)

-- addresses that lie in the base
abbrev pub InBase : List ℤ → List ℕ → Type 0
InBase base addresses = (a : ℕ) → Memᴰ a addresses → ((a + 1) * record_words ≤ length base) × (a < 65536)

-- ---- one row
module _ (g : Axes) (first row : ℕ) where
  abbrev start : ℕ
  start = base_address g first row

  row_one : {two : Bool} → two ≡ false → row_addresses g first two row ≡ addresses start (start + 1)
  unfolding columns_read
  row_one e = ap (map (λ c. base_address g c row)) (no (first ∷ (first + 1) ∷ []) (first ∷ []) e) ∙ sym (addresses-one start)

  two-list : addresses start (start + 2) ≡ start ∷ (start + 1) ∷ []
  two-list =
      addresses-more start (start + 2) (omega arith)
      ∙ ap (λ (l : List ℕ). start ∷ l)
      (addresses-more (start + 1) (start + 2) (omega arith) ∙ ap (λ (l : List ℕ). (start + 1) ∷ l) (addresses-end (start + 1 + 1) (start + 2) (omega arith)))

  row-two : {two : Bool} → two ≡ true → row_addresses g first two row ≡ addresses start (start + 2)
  unfolding columns_read
  row-two e =
      let next : base_address g (first + 1) row ≡ start + 1 = omega arith in
      ap (map (λ c. base_address g c row)) (yes (first ∷ (first + 1) ∷ []) (first ∷ []) e) ∙ (ap (λ (n : ℕ). start ∷ n ∷ []) next ∙ sym two-list)

  module _ (base : List ℤ) where
    one_in : {two : Bool} → two ≡ false → InBase base (row_addresses g first two row) → ((start + 1) * record_words ≤ length base) × (start < 65536)
    one_in e h = subst (InBase base) (row_one e ∙ addresses-one start) h start (Memᴰ.head refl)

    two_in : {two : Bool} → two ≡ true → InBase base (row_addresses g first two row) → ((start + 2) * record_words ≤ length base) × (start + 1 < 65536)
    two_in e h =
        let k = subst (InBase base) (row-two e ∙ two-list) h (start + 1) (Memᴰ.tail (Memᴰ.head refl)) in
        let n : start + 1 + 1 ≡ start + 2 = omega arith in
        (subst (λ (m : ℕ). m * record_words ≤ length base) n k.0, k.1)

-- ---- the run of a row
abbrev listed : Run → List ℕ
listed r = addresses r.from r.to

module _ (g : Axes) (h : AxisRead) (row : ℕ) where
  abbrev row_of : List ℕ
  row_of = row_addresses g (first_of h) (two_read h) row

  abbrev run_at : Bool → Run
  run_at read = run_of (macroblocks (base_size g.horizontal)) h row read

  abbrev up_to-count : ℕ → Run
  up_to-count k = record { from = start g (first_of h) row; to = start g (first_of h) row + k }

  run-read : {read : Bool} → read ≡ true → listed (run_at read) ≡ row_of
  unfolding run_of
  run-read e = ap listed (yes _ _ e) ∙ by (two_read h) refl
    where
      by : (t : Bool) → two_read h ≡ t → listed (up_to-count (pick (two_read h) 2 1)) ≡ row_of
      by true q = ap (λ (k : ℕ). listed (up_to-count k)) (yes 2 1 q) ∙ sym (row-two g (first_of h) row q)
      by false q = ap (λ (k : ℕ). listed (up_to-count k)) (no 2 1 q) ∙ sym (row_one g (first_of h) row q)

  run-unread : {read : Bool} → read ≡ false → listed (run_at read) ≡ []
  unfolding run_of
  run-unread e = ap listed (no _ _ e) ∙ addresses-end 0 0 (omega arith)

  run_in : (base : List ℤ) (read : Bool) → (read ≡ true → InBase base row_of) → RunIn base (run_at read)
  unfolding run_of
  run_in base true n = subst (RunIn base) (sym (yes _ _ refl)) (by (two_read h) refl)
    where
      by : (t : Bool) → two_read h ≡ t → RunIn base (up_to-count (pick (two_read h) 2 1))
      by true q =
          let k = two_in g (first_of h) row base q (n refl) in
          subst (λ (j : ℕ). RunIn base (up_to-count j)) (sym (yes 2 1 q)) (k.0, omega arith, omega (arith, k.1))
      by false q =
          let k = one_in g (first_of h) row base q (n refl) in
          subst (λ (j : ℕ). RunIn base (up_to-count j)) (sym (no 2 1 q)) (k.0, omega arith, omega (arith, k.1))
  run_in base false n = subst (RunIn base) (sym (no _ _ refl)) (omega arith, omega arith, omega arith)

-- a run as it is made: its first address, and how many there are
module _ (width : ℕ) (h : AxisRead) (row : ℕ) {read : Bool} where
  pub run-made : read ≡ true → (a k : ℕ) → a ≡ row * width + first_of h → k ≡ pick (two_read h) 2 1 → record { from = a; to = a + k } ≡ run_of width h row read
  unfolding run_of
  run-made e a k p q = (λ i. record { from = p i; to = p i + q i }) ∙ sym (yes _ _ e)

  pub run_none : read ≡ false → record { from = 0; to = 0 } ≡ run_of width h row read
  unfolding run_of
  run_none e = sym (no _ _ e)

-- ---- both runs
tests-join : (limit : ℕ) (base : List ℤ) (xs ys : List ℕ) → record_tests limit base (xs ++ ys) ≡ record_tests limit base xs ++ record_tests limit base ys
unfolding record_tests
tests-join limit base [] ys = refl
tests-join limit base (x ∷ xs) ys = ap (λ (l : List Test). record_test limit base x ∷ l) (tests-join limit base xs ys)

module _ (g : Axes) (h v : AxisRead) where
  by_rows : addresses_of g (origin_by h v) ≡ for_each (columns_read (first_of v) (two_read v)) (row_of g h)
  unfolding addresses_of
  by_rows =
      let c = class-columns (two_read h) (two_read v) in
      let r = class-rows (two_read h) (two_read v) in
      λ i. for_each (columns_read (first_of v) (r i)) (λ row. map (λ column. base_address g column row) (columns_read (first_of h) (c i)))

  named-one : two_read v ≡ false → addresses_of g (origin_by h v) ≡ row_of g h (first_of v)
  unfolding columns_read
  named-one e = by_rows ∙ (ap (λ (l : List ℕ). for_each l (row_of g h)) (no (first_of v ∷ (first_of v + 1) ∷ []) (first_of v ∷ []) e) ∙ append-nil (row_of g h (first_of v)))

  named-two : two_read v ≡ true → addresses_of g (origin_by h v) ≡ row_of g h (first_of v) ++ row_of g h (first_of v + 1)
  unfolding columns_read
  named-two e =
      by_rows ∙ (ap (λ (l : List ℕ). for_each l (row_of g h)) (yes (first_of v ∷ (first_of v + 1) ∷ []) (first_of v ∷ []) e)
      ∙ ap (λ (l : List ℕ). row_of g h (first_of v) ++ l) (append-nil (row_of g h (first_of v + 1))))

  -- the runs of a site: inside those of the rows that are read, and outside none
  abbrev site : Site
  site = site_by g h v

  abbrev runs : List ℕ
  runs = runs_of site.upper site.lower

  pub runs-inside : (h.inside && v.inside) ≡ true → runs ≡ addresses_of g (origin_by h v)
  unfolding site_by
  runs-inside t = by (two_read v) refl
    where
      by : (two : Bool) → two_read v ≡ two → runs ≡ addresses_of g (origin_by h v)
      by true q = let p = run-read g h (first_of v) t in let r = run-read g h (first_of v + 1) (and_intro t q) in (λ i. p i ++ r i) ∙ sym (named-two q)
      by false q =
          let p = run-read g h (first_of v) t in
          let r = run-unread g h (first_of v + 1) (and_no (h.inside && v.inside) q) in
          (λ i. p i ++ r i) ∙ (append-nil (row_of g h (first_of v)) ∙ sym (named-one q))

  pub runs-outside : (h.inside && v.inside) ≡ false → runs ≡ []
  unfolding site_by
  runs-outside t =
      let p = run-unread g h (first_of v) t in
      let r = run-unread g h (first_of v + 1) (ap (λ (b : Bool). b && two_read v) t) in
      λ i. p i ++ r i

  -- and they lie in the base if the records that are read do
  module _ (base : List ℤ) (n : (h.inside && v.inside) ≡ true → InBase base (addresses_of g (origin_by h v))) where
    pub upper_in : RunIn base site.upper
    unfolding site_by
    upper_in = run_in g h (first_of v) base (h.inside && v.inside) (λ t. by (n t) (two_read v) refl)
      where
        by : InBase base (addresses_of g (origin_by h v)) → (two : Bool) → two_read v ≡ two → InBase base (row_of g h (first_of v))
        by k true q = λ a m. k a (subst (Memᴰ a) (sym (named-two q)) (Memᴰ.append_left (row_of g h (first_of v + 1)) m))
        by k false q = subst (InBase base) (named-one q) k

    pub lower_in : RunIn base site.lower
    unfolding site_by
    lower_in =
        run_in g h (first_of v + 1) base ((h.inside && v.inside) && two_read v) (λ t a m.
        let b = both_true (h.inside && v.inside) (two_read v) t in
        n b.0 a (subst (Memᴰ a) (sym (named-two b.1)) (Memᴰ.append_right (row_of g h (first_of v)) m)))

-- a site as it is made
pub site-made : (p : Placed) {fixed : Fixed} {h v : AxisRead} {two : Bool} {upper lower : Run}
    → fixed ≡ fixed_of p.axes → h ≡ read_of p.axes.horizontal p.column → v ≡ read_of p.axes.vertical p.row → two ≡ two_read v
    → upper ≡ run_of fixed.width h (first_of v) (h.inside && v.inside) → lower ≡ run_of fixed.width h (first_of v + 1) ((h.inside && v.inside) && two)
    → record { fixed = fixed; h = h; v = v; upper = upper; lower = lower } ≡ site_of p
unfolding site_by
site-made p f h w two u l =
    let upper = u ∙ (λ j. run_of (f j).width (h j) (first_of (w j)) ((h j).inside && (w j).inside)) in
    let lower = l ∙ (λ j. run_of (f j).width (h j) (first_of (w j) + 1) (((h j).inside && (w j).inside) && (two ∙ ap two_read w) j)) in
    λ i. record { fixed = f i; h = h i; v = w i; upper = upper i; lower = lower i }

-- ---- the verdict on two runs
module _ (limit : ℕ) (base : List ℤ) (upper lower : Run) where
  abbrev verdict_on : List ℕ → Verdict
  verdict_on l = verdict_of (record_tests limit base l)

  -- the lower one has no address
  pub only-upper : lower.to ≡ 0 → verdict_on (listed upper) ≡ verdict_on (runs_of upper lower)
  only-upper e = ap verdict_on (sym (ap (λ (l : List ℕ). listed upper ++ l) (addresses-end lower.from lower.to (omega (arith, e))) ∙ append-nil (listed upper)))

  joined : verdict_on (runs_of upper lower) ≡ verdict_of (record_tests limit base (listed upper) ++ record_tests limit base (listed lower))
  joined = ap verdict_of (tests-join limit base (listed upper) (listed lower))

  pub then-lower : verdict_on (listed upper) ≡ Accepted → verdict_on (listed lower) ≡ verdict_on (runs_of upper lower)
  then-lower e = sym (joined ∙ then-verdict (record_tests limit base (listed upper)) _ e)

  pub upper-refused : (r : Refusal) → verdict_on (listed upper) ≡ Refused r → Refused r ≡ verdict_on (runs_of upper lower)
  upper-refused r e = sym (joined ∙ refused-first (record_tests limit base (listed upper)) _ r e)
