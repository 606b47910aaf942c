-- The addresses that a call checks rise, so that the first malformed record is the lowest (RecordsJudged of specs/Refusals, LowestRefused
-- of specs/Calls, LowestInProgram of specs/Log). Assumes nothing.
use Prim.Native.Nat.{ℕ, zero, suc, ◌+◌, ◌<◌}
use mathlib.Core.Path.{◌≡◌, refl, sym, ap, subst, ◌∙◌}
use mathlib.Core.Bool.{Bool, true, false, not, false≢true}
use mathlib.Core.List.Memᴰ
use mathlib.Core.List.{List, [], ◌∷◌, ◌++◌, map, Memᴰ}
use mathlib.Core.Logic.{⊎_elim}
use native.Mathlib.Nat.{mul-le-mul_right}
use native.Mathlib.Omega.{arith}
use lib.Dec.{eqb}
use lib.IntN.{ℤ, nat_abs}
use Rattle.definitions.specs.declared.Axes.{Axes}
use Rattle.definitions.specs.declared.Numbers.{Numbers}
use Rattle.definitions.specs.declared.Refusal.{Refusal}
use Rattle.definitions.specs.Replies.{Accepted}
use Rattle.std.specs.Prelude.{Err as Refused}
use Rattle.std.specs.Prelude.{Err as Declined}
use Rattle.std.specs.Prelude.{Err as NotMade}
use Rattle.definitions.specs.Basics.{all_of, up_to, for_each}
use Rattle.definitions.specs.Geometry.{axes_of, base_size, macroblocks, inside, columns_read}
use Rattle.definitions.specs.Record.{record_at, well_formed, narrow}
use Rattle.definitions.specs.Answer.{origin_at, columns_of, rows_of, addresses_of}
use Rattle.definitions.specs.Refusals.{Test, verdict_of, geometry_tests, geometry_verdict, base_test, output_test, position_test, record_test, record_tests, addresses_read, all_addresses, LowestMalformed, Rising, RecordsJudged}
use Rattle.definitions.specs.Calls.{macroblock_tests, macroblock_call, picture_tests, picture_call, LowestRefused}
use Rattle.definitions.specs.Log.{lines_test, program_tests, LowestInProgram}
use Rattle.definitions.specs.Raster.{base_address, full_count}
use Rattle.definitions.proofs.Choices.{yes, no, pick-cases}
use Rattle.definitions.proofs.Verdicts.{refused-later, reply-refused}
use Rattle.definitions.proofs.Accepted.{accepted-axes, across-inside, down-inside}
use Rattle.definitions.proofs.RecordLists.{all-formed, formed-all, member-up_to}
use Rattle.definitions.proofs.Addresses.{member-for, columns-are, rows_are, column-below}

-- ---- the first malformed record of a rising list is its lowest
refused-lowest : (limit : ℕ) (base : List ℤ) (addresses : List ℕ) → Rising addresses → (r : Refusal) → verdict_of (record_tests limit base addresses) ≡ Refused r → LowestMalformed limit base addresses r
unfolding record_tests
refused-lowest limit base [] rise r e = absurd (let z : ◌≡◌ {A = ℕ} 0 1 = cc in omega arith)
refused-lowest limit base (a ∷ rest) rise r e = by (well_formed limit (record_at base a)) refl (refused-lowest limit base rest rise.1 r)
  where
    by : (b : Bool) → well_formed limit (record_at base a) ≡ b → (verdict_of (record_tests limit base rest) ≡ Refused r → LowestMalformed limit base rest r) → LowestMalformed limit base (a ∷ rest) r
    by true w later =
        let l = later (sym (no _ _ (ap not w)) ∙ e) in
        record {
          number = l.number;
          checked = Memᴰ.tail l.checked;
          malformed = l.malformed;
          none-lower = λ c m f. ⊎_elim (λ p. absurd (false≢true (sym f ∙ (ap (λ (k : ℕ). well_formed limit (record_at base k)) p ∙ w)))) (λ t. l.none-lower c t f) (Memᴰ.cases_cons m);
          rule = l.rule;
        }
    by false w later =
        let p : (record_test limit base a).gives ≡ r = cc (sym (yes _ _ (ap not w)) ∙ e) in
        subst (λ (q : Refusal). LowestMalformed limit base (a ∷ rest) q) p
        (record {
          number = refl;
          checked = Memᴰ.head refl;
          malformed = w;
          none-lower = λ c m f. ⊎_elim (λ q. omega arith) (λ t. omega (arith, rise.0 c t)) (Memᴰ.cases_cons m);
          rule = refl;
        })

-- ---- rising lists
rising-join : (xs ys : List ℕ) → Rising xs → Rising ys → ((x y : ℕ) → Memᴰ x xs → Memᴰ y ys → x < y) → Rising (xs ++ ys)
rising-join [] ys p q h = q
rising-join (x ∷ xs) ys p q h =
    (λ b m. ⊎_elim (λ l. p.0 b l) (λ l. h x b (Memᴰ.head refl) l) (Memᴰ.append_cases xs m), rising-join xs ys p.1 q (λ a b m k. h a b (Memᴰ.tail m) k))

rising-one : (x : ℕ) → Rising (x ∷ [])
rising-one x = (λ b m. absurd (Memᴰ.not-nil m), tt)

rising-up_to : (n : ℕ) (f : ℕ → ℕ) → ((i j : ℕ) → i < j → j < n → f i < f j) → Rising (up_to n f)
unfolding up_to
rising-up_to zero f h = tt
rising-up_to (suc n) f h =
    rising-join (up_to n f) (f n ∷ []) (rising-up_to n f (λ i j l k. h i j l (omega arith))) (rising-one (f n))
    (λ x y m k. let e = Memᴰ.eq_of_singleton k in let w = member-up_to n f m in omega (arith, w.2, h w.0 n w.1 (omega arith)))

rising-columns : (first : ℕ) (two : Bool) → Rising (columns_read first two)
unfolding columns_read
rising-columns first two =
    pick-cases Rising two (first ∷ (first + 1) ∷ []) (first ∷ [])
    (λ e. (λ b m. let p = Memᴰ.eq_of_singleton m in omega arith, rising-one (first + 1)))
    (λ e. rising-one first)

-- the addresses of some columns of the base in some rows, in raster order
module _ (g : Axes) where
  abbrev width : ℕ
  width = macroblocks (base_size g.horizontal)

  abbrev at : ℕ → ℕ → ℕ
  at row column = base_address g column row

  rising-row : (row : ℕ) (columns : List ℕ) → Rising columns → Rising (map (at row) columns)
  rising-row row [] p = tt
  rising-row row (c ∷ cs) p =
      (λ b m. let k = Memᴰ.of_map (at row) cs m in omega (arith, p.0 k.0 k.1, k.2), rising-row row cs p.1)

  rising-raster : (rows columns : List ℕ) → Rising rows → Rising columns → ((c : ℕ) → Memᴰ c columns → c < width) → Rising (for_each rows (λ row. map (at row) columns))
  rising-raster [] columns p q h = tt
  rising-raster (r ∷ rs) columns p q h =
      rising-join (map (at r) columns) (for_each rs (λ row. map (at row) columns)) (rising-row r columns q) (rising-raster rs columns p.1 q h)
      (λ x y m k.
      let c = Memᴰ.of_map (at r) columns m in
      let s = member-for (λ row. map (at row) columns) rs k in
      let d = Memᴰ.of_map (at s.0) columns s.2 in
      omega (arith, c.2, d.2, h c.0 c.1, mul-le-mul_right width (p.0 s.0 s.1)))

rising-read : (n : Numbers) (column row : ℕ) → geometry_verdict n ≡ Accepted → Rising (addresses_read (axes_of n) column row)
unfolding addresses_read addresses_of
rising-read n column row accepted =
    let g = axes_of n in
    let named = origin_at g column row in
    let axes = accepted-axes n accepted in
    pick-cases Rising (inside g column row) (addresses_of g named) []
    (λ e. rising-raster g (rows_of named) (columns_of named)
    (subst Rising (sym (rows_are g column row)) (rising-columns _ _))
    (subst Rising (sym (columns-are g column row)) (rising-columns _ _))
    (λ c m. column-below g column row (across-inside g column row axes e) (down-inside g column row axes e) m))
    (λ e. tt)

pub records-judged : (limit : ℕ) → RecordsJudged limit
records-judged limit = record {
  accepted = λ base addresses. (all-formed limit base addresses, formed-all limit base addresses);
  refused = refused-lowest limit;
  all-rise = λ g. rising-up_to _ _ (λ i j h k. omega arith);
  read-rise = rising-read;
}

-- ---- in the calls
pub declined : (limit : ℕ) (n : Numbers) (base : List ℤ) (column row : ℤ) (words : List ℤ) (r : Refusal) → (macroblock_call limit n base column row words).reply ≡ Declined r
    → verdict_of (macroblock_tests limit n base column row words) ≡ Refused r
unfolding macroblock_call
declined limit n base column row words r e = reply-refused _ Declined words _ r (λ q p. cc) (λ p. let z : ◌≡◌ {A = ℕ} 0 1 = cc in omega arith) e

not_made : (limit : ℕ) (n : Numbers) (base words : List ℤ) (r : Refusal) → (picture_call limit n base words).reply ≡ NotMade r → verdict_of (picture_tests limit n base words) ≡ Refused r
unfolding picture_call
not_made limit n base words r e = reply-refused _ NotMade words _ r (λ q p. cc) (λ p. let z : ◌≡◌ {A = ℕ} 0 1 = cc in omega arith) e

-- the tests of the geometry, others that do not give 8, and those of records
lowest-behind : (limit : ℕ) (n : Numbers) (base : List ℤ) (xs : List Test) (addresses : List ℕ) (r : Refusal) → all_of (λ t. not (eqb t.gives.number 8)) xs ≡ true
    → (geometry_verdict n ≡ Accepted → Rising addresses) → r.number ≡ 8 → verdict_of (geometry_tests n ++ (xs ++ record_tests limit base addresses)) ≡ Refused r
    → LowestMalformed limit base addresses r
unfolding geometry_tests all_of
lowest-behind limit n base xs addresses r others rise eight e =
    let first = refused-later 8 (geometry_tests n) (xs ++ record_tests limit base addresses) r refl eight e in
    refused-lowest limit base addresses (rise first.0) r (refused-later 8 xs (record_tests limit base addresses) r others eight first.1).1

pub lowest-refused : (limit : ℕ) → LowestRefused limit
unfolding macroblock_tests picture_tests all_of
lowest-refused limit = record {
  singly = λ n base column row words r e eight.
      let g = axes_of n in
      lowest-behind limit n base (base_test g base ∷ output_test 1 words ∷ position_test g column row ∷ []) (addresses_read g (nat_abs column) (nat_abs row)) r refl
      (rising-read n (nat_abs column) (nat_abs row)) eight (declined limit n base column row words r e);
  picture = λ n base words r e eight.
      let g = axes_of n in
      lowest-behind limit n base (base_test g base ∷ output_test (full_count g) words ∷ []) (all_addresses g) r refl (λ v. (records-judged limit).all-rise g) eight (not_made limit n base words r e);
}

-- ---- and in the program
pub lowest-in-program : LowestInProgram
unfolding program_tests all_of
lowest-in-program n lines base r e eight =
    let g = axes_of n in
    lowest-behind narrow n base (lines_test g lines ∷ []) (all_addresses g) r refl (λ v. (records-judged narrow).all-rise g) eight e
