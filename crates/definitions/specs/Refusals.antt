-- "From the input" of document 01: the refusals of the calls on records, 1 to 8, each with the test of where it applies.
use Rattle.std.specs.Prelude.{ℕ, ◌*◌, ◌%◌, ◌≤◌, ◌<◌, ◌≡◌, ◌↔◌, Bool, true, false, not, ◌&&◌, eqb, ℤ, pos, nat_abs, ◌*ℤ◌, length}
use mathlib.Core.List.{List, [], ◌∷◌, map, Memᴰ}
use Rattle.std.specs.Int.Signed.{le_z, lt_z}
use Rattle.definitions.specs.declared.Axes.{Axes}
use Rattle.definitions.specs.declared.Numbers.{Numbers}
use Rattle.definitions.specs.declared.Refusal.{Refusal}
use Rattle.definitions.specs.Replies.{Verdict, Accepted}
use Rattle.std.specs.Prelude.{Err as Refused}
use Rattle.definitions.specs.Basics.{pick, minus, between, up_to}
use Rattle.definitions.specs.Geometry.{axes_of, full_size, macroblocks, inside}
use Rattle.definitions.specs.Raster.{base_count}
use Rattle.definitions.specs.Record.{record_words, record_at, well_formed, first_broken}
use Rattle.definitions.specs.Answer.{origin_at, addresses_of}

-- A refusal has a number and a place; the place is 0 unless given.
abbrev pub refusal : ℕ → Refusal
refusal n = record { number = n; place = 0; rule = 0 }

-- a refusal, and whether it applies
pub record Test : Type 0 where
  pub applies : Bool
  pub gives : Refusal

abbrev pub test : Bool → Refusal → Test
test t r = record { applies = t; gives = r }

-- tests in their order: the first that applies is the verdict
abbrev pub verdict_of : List Test → Verdict
verdict_of [] = Accepted
verdict_of (t ∷ ts) = pick t.applies (Refused t.gives) (verdict_of ts)

-- 1 and 2: a multiple of 16 in 16..4,096
abbrev pub size_right : ℤ → Bool
size_right z = between (pos 16) (pos 4096) z && eqb (nat_abs z % 16) 0

-- 3: S even, not below B and not above 2B
abbrev pub scaled_right : ℤ → ℤ → Bool
scaled_right b s = eqb (nat_abs s % 2) 0 && between b (pos 2 *ℤ b) s

-- 4: an offset even and in −8,192..8,190
abbrev pub offset_right : ℤ → Bool
offset_right o = eqb (nat_abs o % 2) 0 && between (minus 8192) (pos 8190) o

-- 1 to 4, by number: each is tested on both axes before the next
unfoldable pub geometry_tests : Numbers → List Test
geometry_tests n =
    let h = n.horizontal in
    let v = n.vertical in
    test (not (size_right h.base && size_right v.base)) (refusal 1)
    ∷ test (not (size_right h.full && size_right v.full)) (refusal 2)
    ∷ test (not (scaled_right h.base h.scaled && scaled_right v.base v.scaled)) (refusal 3)
    ∷ test (not (offset_right h.offset && offset_right v.offset)) (refusal 4)
    ∷ []

-- an accepted geometry is one that 1 to 4 do not refuse
abbrev pub geometry_verdict : Numbers → Verdict
geometry_verdict n = verdict_of (geometry_tests n)

-- 5: base length is not 78 times its macroblocks
abbrev pub base_test : Axes → List ℤ → Test
base_test g base = test (not (eqb (length base) (record_words * base_count g))) (refusal 5)

-- 6: output length wrong
abbrev pub output_test : ℕ → List ℤ → Test
output_test records out = test (not (eqb (length out) (record_words * records))) (refusal 6)

-- 7: column or row outside the picture
abbrev pub within_axis : ℕ → ℤ → Bool
within_axis size x = le_z (pos 0) x && lt_z x (pos (macroblocks size))

abbrev pub position_test : Axes → ℤ → ℤ → Test
position_test g column row = test (not (within_axis (full_size g.horizontal) column && within_axis (full_size g.vertical) row)) (refusal 7)

-- 8: a malformed record; the place is, among the records checked, the lowest malformed address, and in it the first broken rule as a further number.
-- (The addresses are in rising order: RecordsJudged below.)
abbrev pub record_test : ℕ → List ℤ → ℕ → Test
record_test limit base a = test (not (well_formed limit (record_at base a))) (record { number = 8; place = a; rule = first_broken limit (record_at base a) })

unfoldable pub record_tests : ℕ → List ℤ → List ℕ → List Test
record_tests limit base addresses = map (record_test limit base) addresses

-- the addresses that a macroblock's call checks: those that its class reads; outside none
unfoldable pub addresses_read : Axes → ℕ → ℕ → List ℕ
addresses_read g column row = pick (inside g column row) (addresses_of g (origin_at g column row)) []

-- all addresses of the base
abbrev pub all_addresses : Axes → List ℕ
all_addresses g = up_to (base_count g) (λ a. a)

-- every record of the base is well formed
abbrev pub AllFormed : ℕ → Axes → List ℤ → Type 0
AllFormed limit g base = (a : ℕ) → a < base_count g → well_formed limit (record_at base a) ≡ true

-- What 8 says of the records checked, whichever they are: its place is one of their addresses, malformed, and none of them that is malformed is lower.
pub record LowestMalformed (limit : ℕ) (base : List ℤ) (addresses : List ℕ) (r : Refusal) : Type 0 where
  pub number : r.number ≡ 8
  pub checked : Memᴰ r.place addresses
  pub malformed : well_formed limit (record_at base r.place) ≡ false
  pub none-lower : (a : ℕ) → Memᴰ a addresses → well_formed limit (record_at base a) ≡ false → r.place ≤ a
  pub rule : r.rule ≡ first_broken limit (record_at base r.place)

-- addresses rise: each is below all that follow
abbrev pub Rising : List ℕ → Type 0
Rising [] = Unit
Rising (a ∷ rest) = ((b : ℕ) → Memᴰ b rest → a < b) × Rising rest

-- The tests of records, one after the other, say just that, for the addresses that the calls check rise.
pub record RecordsJudged (limit : ℕ) : Type 0 where
  pub accepted : (base : List ℤ) (addresses : List ℕ)
      → (verdict_of (record_tests limit base addresses) ≡ Accepted) ↔ ((a : ℕ) → Memᴰ a addresses → well_formed limit (record_at base a) ≡ true)
  pub refused : (base : List ℤ) (addresses : List ℕ) → Rising addresses → (r : Refusal) → verdict_of (record_tests limit base addresses) ≡ Refused r
      → LowestMalformed limit base addresses r
  pub all-rise : (g : Axes) → Rising (all_addresses g)
  pub read-rise : (n : Numbers) (column row : ℕ) → geometry_verdict n ≡ Accepted → Rising (addresses_read (axes_of n) column row)
