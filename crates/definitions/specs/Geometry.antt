-- "Geometry" of document 01 (003, 3.1 and 3.2). Both axes obey the same rules, so all but the last definitions are of one axis.
-- B and Z are base samples; S, o, E, P, c, p(j), d, D, M and N are enhancement samples. Quotients of naturals round down.
use Rattle.std.specs.Prelude.{ℕ, ◌+◌, ◌*◌, ◌-◌, ◌/◌, ◌%◌, Bool, true, false, not, ◌&&◌, List, [], ◌∷◌, eqb, leb, ℤ, pos, nat_abs, ◌+ℤ◌, ◌-ℤ◌}
use Rattle.std.proofs.Math.IntN.{sub_ℕ}
use Rattle.std.specs.Int.Signed.{le_z, lt_z}
use Rattle.definitions.specs.declared.Axis.{Axis}
use Rattle.definitions.specs.declared.Axes.{Axes}
use Rattle.definitions.specs.declared.AxisNumbers.{AxisNumbers}
use Rattle.definitions.specs.declared.Numbers.{Numbers}
use Rattle.definitions.specs.declared.Class.{Class}
use Rattle.definitions.specs.declared.Class.TheVariants.{Corner, Vert, Hori, Center}
use Rattle.definitions.specs.Basics.{pick, minus, signed}

-- B, S, E and o of an axis
abbrev pub base_size : Axis → ℕ
base_size a = a.base.0

abbrev pub scaled_size : Axis → ℕ
scaled_size a = a.scaled.0

abbrev pub full_size : Axis → ℕ
full_size a = a.full.0

abbrev pub offset_of : Axis → ℤ
offset_of a = a.offset.0

-- The axes of numbers that are lent. (Accepted, B, S and E are not below 0, and nat_abs is the number itself.)
abbrev pub axis_of : AxisNumbers → Axis
axis_of n = record { base = record { 0 = nat_abs n.base }; scaled = record { 0 = nat_abs n.scaled }; offset = record { 0 = n.offset }; full = record { 0 = nat_abs n.full } }

abbrev pub axes_of : Numbers → Axes
axes_of n = record { horizontal = axis_of n.horizontal; vertical = axis_of n.vertical }

-- a macroblock's sample P: macroblocks are sixteen samples wide and high
abbrev pub sample_of : ℕ → ℕ
sample_of x = 16 * x

-- how many macroblocks fit a size
abbrev pub macroblocks : ℕ → ℕ
macroblocks size = size / 16

-- o ≤ P and P + 16 ≤ o + S
unfoldable pub inside_axis : Axis → ℕ → Bool
inside_axis a p = le_z (offset_of a) (pos p) && le_z (pos (p + 16)) (offset_of a +ℤ pos (scaled_size a))

-- c = P − o + 8. (Inside, P − o is not below 0, and nat_abs is the number itself: c-is of proofs/Accepted.) The definitions after it have B, S and c.
abbrev pub c_of : Axis → ℕ → ℕ
c_of a p = nat_abs (pos p -ℤ offset_of a) + 8

-- Z = (c·B + B/2) / S and k = Z / 8
abbrev pub z_of : ℕ → ℕ → ℕ → ℕ
z_of b s c = (c * b + b / 2) / s

abbrev pub k_of : ℕ → ℕ → ℕ → ℕ
k_of b s c = z_of b s c / 8

-- p(j) = (8·j·S + B/2) / B
abbrev pub p_of : ℕ → ℕ → ℕ → ℕ
p_of b s j = (8 * j * s + b / 2) / b

-- d1 = p(k) − c and d2 = p(k+1) − c
abbrev pub d1_of : ℕ → ℕ → ℕ → ℤ
d1_of b s c = sub_ℕ (p_of b s (k_of b s c)) c

abbrev pub d2_of : ℕ → ℕ → ℕ → ℤ
d2_of b s c = sub_ℕ (p_of b s (k_of b s c + 1)) c

-- D: sign(d) · 4 · ((|d| + 2) / 4)
abbrev pub rounded_of : ℤ → ℤ
rounded_of d = signed d (4 * ((nat_abs d + 2) / 4))

abbrev pub even : ℕ → Bool
even n = eqb (n % 2) 0

-- k even: M = D1, N = D2. k odd: M = D2, N = D1
unfoldable pub m_of : ℕ → ℕ → ℕ → ℤ
m_of b s c = pick (even (k_of b s c)) (rounded_of (d1_of b s c)) (rounded_of (d2_of b s c))

unfoldable pub n_of : ℕ → ℕ → ℕ → ℤ
n_of b s c = pick (even (k_of b s c)) (rounded_of (d2_of b s c)) (rounded_of (d1_of b s c))

-- F: k/2 − 1 if k is even and M > −8, else k/2. (k = 0 has M ≤ −8, so that 1 is never taken from 0.)
unfoldable pub f_of : ℕ → ℕ → ℕ → ℕ
f_of b s c = pick (even (k_of b s c) && lt_z (minus 8) (m_of b s c)) (k_of b s c / 2 - 1) (k_of b s c / 2)

-- |M| ≥ 8: one column (row) is read, F. Otherwise two, F and F + 1
unfoldable pub two_of : ℕ → ℕ → ℕ → Bool
two_of b s c = not (leb 8 (nat_abs (m_of b s c)))

unfoldable pub columns_read : ℕ → Bool → List ℕ
columns_read first two = pick two (first ∷ (first + 1) ∷ []) (first ∷ [])

-- Class (003, 3.2): Corner reads one base macroblock, Vert two columns, Hori two rows, Center four. The arguments: two columns are read, two rows are.
abbrev pub class_of : Bool → Bool → Class
class_of false false = Corner
class_of true false = Vert
class_of false true = Hori
class_of true true = Center

-- A macroblock is inside (the window) when it is so on both axes
abbrev pub inside : Axes → ℕ → ℕ → Bool
inside g column row = inside_axis g.horizontal (sample_of column) && inside_axis g.vertical (sample_of row)
