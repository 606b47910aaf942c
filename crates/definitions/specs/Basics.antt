-- Tests on numbers, and lists made by an index: the words that the other files are written in.
use Rattle.std.specs.Prelude.{ℕ, zero, suc, ◌+◌, ◌/◌, ◌%◌, ◌^◌, Bool, true, false, ◌&&◌, ◌||◌, List, [], ◌∷◌, ◌++◌, eqb, ℤ, pos, negsuc, neg_ℤ, get_or}
use Rattle.std.specs.Int.Signed.{le_z, shr_z}

-- the first of two where the test holds, else the second
unfoldable pub pick : {A : Type 0} → Bool → A → A → A
pick true a b = a
pick false a b = b

-- −n
abbrev pub minus : ℕ → ℤ
minus n = neg_ℤ (pos n)

-- two numbers are the same
abbrev pub eq_z : ℤ → ℤ → Bool
eq_z (pos m) (pos n) = eqb m n
eq_z (pos m) (negsuc n) = false
eq_z (negsuc m) (pos n) = false
eq_z (negsuc m) (negsuc n) = eqb m n

-- z is in low..high
abbrev pub between : ℤ → ℤ → ℤ → Bool
between low high z = le_z low z && le_z z high

-- z divided by n, rounded down, also below zero: −1 − m gives −1 − m/n. (What the library has for z shifted to the right.)
abbrev pub down : ℤ → ℕ → ℤ
down z n = shr_z z n

-- sign(z) · n. (Where z is 0, document 01's n is 0 too.)
abbrev pub signed : ℤ → ℕ → ℤ
signed (pos z) n = pos n
signed (negsuc z) n = minus n

-- bit i of n is set
abbrev pub bit_set : ℕ → ℕ → Bool
bit_set n i = eqb (n / 2 ^ i % 2) 1

-- the number with those of the bits 0..n−1 set at which the test holds
unfoldable pub set_of : ℕ → (ℕ → Bool) → ℕ
set_of zero f = 0
set_of (suc n) f = set_of n f + pick (f n) (2 ^ n) 0

-- the test holds at each of 0..n−1
unfoldable pub all_below : ℕ → (ℕ → Bool) → Bool
all_below zero f = true
all_below (suc n) f = all_below n f && f n

-- at how many of 0..n−1 the test holds
unfoldable pub how_many : ℕ → (ℕ → Bool) → ℕ
how_many zero f = 0
how_many (suc n) f = how_many n f + pick (f n) 1 0

-- the test holds of each member
unfoldable pub all_of : {A : Type 0} → (A → Bool) → List A → Bool
all_of f [] = true
all_of f (x ∷ xs) = f x && all_of f xs

-- f 0, f 1, .. f (n−1)
unfoldable pub up_to : {A : Type 0} → ℕ → (ℕ → A) → List A
up_to zero f = []
up_to (suc n) f = up_to n f ++ (f n ∷ [])

-- the lists of the members, one after the other
abbrev pub for_each : {A B : Type 0} → List A → (A → List B) → List B
for_each [] f = []
for_each (x ∷ xs) f = f x ++ for_each xs f

-- four in raster order: 0 1 above 2 3
abbrev pub four : {A : Type 0} → (ℕ → A) → List A
four f = f 0 ∷ f 1 ∷ f 2 ∷ f 3 ∷ []

-- at least one of four holds
unfoldable pub some_of : List Bool → Bool
some_of b = get_or b 0 false || (get_or b 1 false || (get_or b 2 false || get_or b 3 false))
