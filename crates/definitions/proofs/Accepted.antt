-- What refusals 1 to 4 and the test of inside leave, as facts on naturals; and a geometry that meets them. Assumes nothing.
use Prim.Native.Nat.{ℕ, suc, ◌+◌, ◌*◌, ◌-◌, ◌/◌, ◌%◌, ◌≤◌, ◌<◌}
use mathlib.Core.Path.{◌≡◌, refl, sym, ap, subst, ◌∙◌}
use mathlib.Core.Bool.{Bool, true, false, not, ◌&&◌, false≢true}
use native.Mathlib.Nat.{mod-lt, div-lt_iff_lt-mul}
use native.Mathlib.Omega.{arith}
use lib.Dec.{T, eqb, leb}
use lib.IntN.{ℤ, pos, negsuc, nat_abs, ◌+ℤ◌, ◌-ℤ◌}
use lib.Signed.{le_z, ◌≤ℤ◌, le_z_yes}
use borrow.Author.Tests.{eqb-true, leb-true}
use Rattle.definitions.specs.declared.Axis.{Axis}
use Rattle.definitions.specs.declared.Axes.{Axes}
use Rattle.definitions.specs.declared.AxisNumbers.{AxisNumbers}
use Rattle.definitions.specs.declared.Numbers.{Numbers}
use Rattle.definitions.specs.declared.Refusal.{Refusal}
use Rattle.definitions.specs.Replies.{Verdict, Accepted}
use Rattle.std.specs.Prelude.{Err as Refused}
use Rattle.definitions.specs.Accepted.{Inside, AcceptedAxis, AcceptedAxes}
use Rattle.definitions.specs.Basics.{pick, minus}
use Rattle.definitions.specs.Geometry.{base_size, scaled_size, full_size, offset_of, axis_of, axes_of, inside_axis, inside, c_of, sample_of, macroblocks}
use Rattle.definitions.specs.Refusals.{size_right, scaled_right, offset_right, geometry_tests, geometry_verdict}
use Rattle.definitions.specs.Examples.{whole_case}
use Rattle.definitions.specs.Raster.{full_count}
use Rattle.definitions.proofs.Choices.{both_true}
use Rattle.definitions.proofs.Differences.{sub-pos, sub_cases, pos-minus}

-- ---- each test
record SizeRight (z : ℤ) : Type 0 where
  is : z ≡ pos (nat_abs z)
  sixteens : nat_abs z % 16 ≡ 0
  low : 16 ≤ nat_abs z
  high : nat_abs z ≤ 4096

size-right : (z : ℤ) → size_right z ≡ true → SizeRight z
size-right (pos n) e =
    let both = both_true _ (eqb (n % 16) 0) e in
    let bounds = both_true (leb 16 n) (leb n 4096) both.0 in
    record { is = refl; sixteens = eqb-true _ 0 both.1; low = leb-true 16 n bounds.0; high = leb-true n 4096 bounds.1 }
size-right (negsuc n) e = absurd (false≢true e)

record ScaledRight (b : ℕ) (z : ℤ) : Type 0 where
  is : z ≡ pos (nat_abs z)
  even : nat_abs z % 2 ≡ 0
  low : b ≤ nat_abs z
  high : nat_abs z ≤ 2 * b

scaled-right : (b : ℕ) (z : ℤ) → scaled_right (pos b) z ≡ true → ScaledRight b z
scaled-right b (pos n) e =
    let both = both_true (eqb (n % 2) 0) _ e in
    let bounds = both_true (leb b n) (leb n (2 * b)) both.1 in
    record { is = refl; even = eqb-true _ 0 both.0; low = leb-true b n bounds.0; high = leb-true n (2 * b) bounds.1 }
scaled-right b (negsuc n) e = absurd (false≢true (both_true (eqb (suc n % 2) 0) _ e).1)

le-true : (a b : ℤ) → le_z a b ≡ true → a ≤ℤ b
le-true a b e = le_z_yes (subst T (sym e) tt)

-- ---- an axis as it is lent: its sizes are the naturals, and it is accepted
pub record AcceptedNumbers (n : AxisNumbers) : Type 0 where
  pub base-is : n.base ≡ pos (base_size (axis_of n))
  pub scaled-is : n.scaled ≡ pos (scaled_size (axis_of n))
  pub full_is : n.full ≡ pos (full_size (axis_of n))
  pub accepted : AcceptedAxis (axis_of n)

axis-right : (n : AxisNumbers) → size_right n.base ≡ true → size_right n.full ≡ true → scaled_right n.base n.scaled ≡ true → offset_right n.offset ≡ true → AcceptedNumbers n
axis-right n base full scaled offset =
    let b = size-right n.base base in
    let f = size-right n.full full in
    let s = scaled-right (nat_abs n.base) n.scaled (ap (λ (z : ℤ). scaled_right z n.scaled) (sym b.is) ∙ scaled) in
    let o = both_true (eqb (nat_abs n.offset % 2) 0) _ offset in
    let bounds = both_true (le_z (minus 8192) n.offset) (le_z n.offset (pos 8190)) o.1 in
    record {
      base-is = b.is;
      scaled-is = s.is;
      full_is = f.is;
      accepted = record {
        sized = record {
          sixteens = b.sixteens;
          base-low = b.low;
          base-high = b.high;
          scaled-even = s.even;
          scaled-low = s.low;
          scaled-high = s.high;
        };
        full-sixteens = f.sixteens;
        full-low = f.low;
        full-high = f.high;
        offset-even = eqb-true _ 0 o.0;
        offset-low = le-true _ _ bounds.0;
        offset-high = le-true _ _ bounds.1;
      };
    }

-- a test that did not apply, on two axes, held on both
passed : (h v : Bool) (r : Refusal) (rest : Verdict) → pick (not (h && v)) (Refused r) rest ≡ Accepted → ((h ≡ true) × (v ≡ true)) × (rest ≡ Accepted)
unfolding pick
passed true true r rest e = ((refl, refl), e)
passed true false r rest e = ((refl, cc), cc)
passed false v r rest e = ((cc, cc), cc)

pub accepted-numbers : (n : Numbers) → geometry_verdict n ≡ Accepted → AcceptedNumbers n.horizontal × AcceptedNumbers n.vertical
unfolding geometry_tests
accepted-numbers n e =
    let t₁ = passed _ _ _ _ e in
    let t₂ = passed _ _ _ _ t₁.1 in
    let t₃ = passed _ _ _ _ t₂.1 in
    let t₄ = passed _ _ _ _ t₃.1 in
    (axis-right n.horizontal t₁.0.0 t₂.0.0 t₃.0.0 t₄.0.0, axis-right n.vertical t₁.0.1 t₂.0.1 t₃.0.1 t₄.0.1)

pub accepted-axes : (n : Numbers) → geometry_verdict n ≡ Accepted → AcceptedAxes (axes_of n)
accepted-axes n e = let both = accepted-numbers n e in record { horizontal = both.0.accepted; vertical = both.1.accepted }

-- ---- a macroblock inside
-- P − o is not below 0, so that nat_abs is the number itself and c is document 01's
pub not-below : (o : ℤ) (p : ℕ) → le_z o (pos p) ≡ true → pos p -ℤ o ≡ pos (nat_abs (pos p -ℤ o))
not-below (pos x) p e = rw (pos-minus p x, sub-pos p x (leb-true x p e))
not-below (negsuc x) p e = refl

pub c-is : (a : Axis) (p : ℕ) → inside_axis a p ≡ true → pos (c_of a p) ≡ pos p -ℤ offset_of a +ℤ pos 8
unfolding inside_axis
c-is a p e = ap (λ (z : ℤ). z +ℤ pos 8) (sym (not-below (offset_of a) p (both_true _ _ e).0))

fits : (o : ℤ) (p s : ℕ) → le_z o (pos p) ≡ true → le_z (pos (p + 16)) (o +ℤ pos s) ≡ true → nat_abs (pos p -ℤ o) + 8 + 8 ≤ s
fits (pos x) p s l h =
    let le : x ≤ p = leb-true x p l in
    let top : p + 16 ≤ x + s = leb-true (p + 16) (x + s) h in
    rw (pos-minus p x, sub-pos p x le) (omega arith)
fits (negsuc x) p s l h =
    sub_cases (λ z. le_z (pos (p + 16)) z ≡ true → p + suc x + 8 + 8 ≤ s) s (suc x)
    (λ lt e. absurd (false≢true e))
    (λ le e. let top : p + 16 ≤ s - suc x = leb-true (p + 16) (s - suc x) e in omega arith)
    h

pub inside-axis : (a : Axis) (p : ℕ) → AcceptedAxis a → inside_axis a p ≡ true → Inside (base_size a) (scaled_size a) (c_of a p)
unfolding inside_axis
inside-axis a p accepted e =
    let both = both_true (le_z (offset_of a) (pos p)) (le_z (pos (p + 16)) (offset_of a +ℤ pos (scaled_size a))) e in
    record { sized = accepted.sized; c-low = omega arith; c-high = fits (offset_of a) p (scaled_size a) both.0 both.1 }

-- on both axes
module _ (g : Axes) (column row : ℕ) (accepted : AcceptedAxes g) where
  pub across-inside : inside g column row ≡ true → Inside (base_size g.horizontal) (scaled_size g.horizontal) (c_of g.horizontal (sample_of column))
  across-inside e = inside-axis g.horizontal (sample_of column) accepted.horizontal (both_true (inside_axis g.horizontal (sample_of column)) (inside_axis g.vertical (sample_of row)) e).0

  pub down-inside : inside g column row ≡ true → Inside (base_size g.vertical) (scaled_size g.vertical) (c_of g.vertical (sample_of row))
  down-inside e = inside-axis g.vertical (sample_of row) accepted.vertical (both_true (inside_axis g.horizontal (sample_of column)) (inside_axis g.vertical (sample_of row)) e).1

-- ---- the column and row of an address of the picture
module _ (n : Numbers) (accepted : geometry_verdict n ≡ Accepted) where
  abbrev columns : ℕ
  columns = macroblocks (full_size (axes_of n).horizontal)

  some-columns : 0 < columns
  some-columns = omega (arith, (accepted-axes n accepted).horizontal.full-low)

  pub column-within : (address : ℕ) → address % columns < columns
  column-within address = mod-lt address some-columns

  pub row_within : (address : ℕ) → address < full_count (axes_of n) → address / columns < macroblocks (full_size (axes_of n).vertical)
  row_within address h = (div-lt_iff_lt-mul some-columns).1 (omega arith)

-- ---- a geometry that meets all of this: document 01's whole case, its macroblock 1 0
whole-accepted : geometry_verdict whole_case ≡ Accepted
unfolding geometry_tests pick
whole-accepted = refl

pub whole-inside : Inside 16 32 24 × Inside 16 32 8
unfolding inside_axis
whole-inside =
    let axes = accepted-axes whole_case whole-accepted in
    (inside-axis (axis_of whole_case.horizontal) (sample_of 1) axes.horizontal refl, inside-axis (axis_of whole_case.vertical) (sample_of 0) axes.vertical refl)
