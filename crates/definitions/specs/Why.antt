-- Why the table (the block map) and the rounding of step 4 are right. The table: on its own grid each block reads the base block under its centre, which singles out
-- every digit; and in the window as it is seen the two overlap. The rounding: different words stay different, and how near it is to v·S/B and to the rule that document
-- 01 prints, the first. WhyEntire gathers these reasons, and proofs/Why shows them. No other definition cites them.
use Rattle.std.specs.Prelude.{ℕ, ◌+◌, ◌*◌, ◌-◌, ◌/◌, ◌%◌, ◌<◌, ◌≤◌, ◌≡◌, refl, List, [], ◌∷◌, map, ℤ, pos, nat_abs, ◌+ℤ◌, ◌*ℤ◌, ◌-ℤ◌, ◌≤ℤ◌, ◌<ℤ◌}
use Rattle.definitions.specs.Basics.{down, minus, signed}
use Rattle.definitions.specs.Accepted.{Sized, Inside}
use Rattle.definitions.specs.Geometry.{k_of, d1_of, d2_of, rounded_of}
use Rattle.definitions.specs.BlockMap.{coordinate_of}
use Rattle.definitions.specs.Record.{wide}
use Rattle.definitions.specs.Inheriting.{scaled_word}

-- ---- The table
-- The map knows the base's 8 by 8 block k by D1 and D2, its two ends counted from the macroblock's centre and rounded to multiples of four, which is the grid of the
-- macroblock's own blocks. Each of its two 4 by 4 blocks is then w = (D2 − D1)/2 wide,
abbrev pub width_of : ℕ → ℕ → ℕ → ℕ
width_of b s c = nat_abs (rounded_of (d2_of b s c) -ℤ rounded_of (d1_of b s c)) / 2

-- and so are their neighbours: the base block at 4 by 4 coordinate q covers q·w to (q + 1)·w. Block 2k starts at D1, so the macroblock's centre lies at 2k·w − D1.
-- (D1 ≤ 0 ≤ D2, so that both differences are what they are without nat_abs.)
abbrev pub middle_of : ℕ → ℕ → ℕ → ℕ
middle_of b s c = nat_abs (pos (2 * k_of b s c * width_of b s c) -ℤ rounded_of (d1_of b s c))

-- The centre of block i of 0..3 along an axis is 4i − 6 from the macroblock's centre, here m. (Inside, m is not below 8, so that no difference here or in Overlaps is
-- below 0.)
abbrev pub centre_of : ℕ → ℕ → ℕ
centre_of m i = m + 4 * i - 6

-- Base block q, of blocks w wide, lies under x, the centre of block i. Where x is on the border of two, q is the one on the side of the middle of block i's 8 by 8
-- quadrant: the one that starts at x where i is even, the one that ends at x where i is odd.
pub record Under (w q i x : ℕ) : Type 0 where
  pub even : i % 2 ≡ 0 → (q * w ≤ x) × (x < (q + 1) * w)
  pub odd : i % 2 ≡ 1 → (q * w < x) × (x ≤ (q + 1) * w)

-- In the window as it is seen, unrounded, with c for the macroblock's centre: the block with centre x covers x − 2 to x + 2. The base block at 4 by 4 coordinate q
-- covers base samples 4q to 4(q + 1), so its scaled picture covers 4q·S/B to 4(q + 1)·S/B. The two overlap: each starts before the other ends. (Written times B.)
pub record Overlaps (b s q x : ℕ) : Type 0 where
  pub starts : 4 * q * s < (x + 2) * b
  pub ends : (x - 2) * b < 4 * (q + 1) * s

-- ---- The rounding
-- A vector word v, scaled, would be v·S/B, which need not be whole. How far a whole number v' is from it, times B: |B·v' − S·v|
abbrev pub error_of : ℕ → ℕ → ℤ → ℤ → ℕ
error_of b s v v' = nat_abs (pos b *ℤ v' -ℤ pos s *ℤ v)

-- v' is the whole number nearest to v·S/B: it is at most a half away, and where two are exactly a half away it is the upper one, above v·S/B.
pub record NearestUp (b s : ℕ) (v v' : ℤ) : Type 0 where
  pub near : 2 * error_of b s v v' ≤ b
  pub half : 2 * error_of b s v v' ≡ b → (pos s *ℤ v) <ℤ (pos b *ℤ v')

-- The first rule, which document 01 prints and document 02's E3 replaced: sign(v) · ((|v|·S + B/2) / B).
abbrev pub first_rule : ℕ → ℕ → ℤ → ℤ
first_rule b s v = signed v ((nat_abs v * s + b / 2) / b)

-- ---- The reasons
-- For every accepted B and S, every macroblock inside with block i along an axis, and every vector word v
pub record WhyEntire : Type 0 where
  -- the base block that a block reads lies under its centre,
  pub under : (b s c i : ℕ) → Inside b s c → i < 4 → Under (width_of b s c) (coordinate_of b s c i) i (centre_of (middle_of b s c) i)
  -- and is the only one that does;
  pub only_under : (b s c i q : ℕ) → Inside b s c → i < 4 → Under (width_of b s c) q i (centre_of (middle_of b s c) i) → q ≡ coordinate_of b s c i
  -- so a formula gives it, with no table, no F and no class in it: with D1 = −4i and D2 = 4j, block n reads 2k + ⌊(2n − 3 + 2i)/(i + j)⌋ where n is even, and
  -- 2k + ⌈(2n − 3 + 2i)/(i + j)⌉ − 1 where n is odd. (w is 2(i + j), the centre 2k·w + 4i + 4n − 6; ⌈x/w⌉ − 1 is ⌊(x − 1)/w⌋.)
  pub formula : (b s c n : ℕ) → Inside b s c → n < 4 → coordinate_of b s c n ≡ (centre_of (middle_of b s c) n - n % 2) / width_of b s c
  -- in the window as it is seen, the block overlaps the scaled picture of the base block that it reads;
  pub overlap : (b s c i : ℕ) → Inside b s c → i < 4 → Overlaps b s (coordinate_of b s c i) (centre_of c i)
  -- a quotient q = z / n is rounded down, also below zero: n·q ≤ z < n·(q + 1);
  pub floor : (z : ℤ) (n : ℕ) → 0 < n → ((pos n *ℤ down z n) ≤ℤ z) × (z <ℤ (pos n *ℤ (down z n +ℤ pos 1)))
  -- a larger word becomes a larger one,
  pub rising : (b s : ℕ) (v w : ℤ) → Sized b s → v <ℤ w → scaled_word b s v <ℤ scaled_word b s w
  -- so that two different words never scale to one;
  pub apart : (b s : ℕ) (v w : ℤ) → Sized b s → scaled_word b s v ≡ scaled_word b s w → v ≡ w
  -- the scaled word is at most a half and |v|/131,072 from v·S/B: 2 · 65,536 · |B·v' − S·v| ≤ B · (65,536 + |v|);
  pub error : (b s : ℕ) (v : ℤ) → Sized b s → 2 * 65536 * error_of b s v (scaled_word b s v) ≤ b * (65536 + nat_abs v)
  -- where S · 65,536 / B is whole it is the whole number nearest to v·S/B, halves up,
  pub nearest : (b s : ℕ) (v : ℤ) → Sized b s → s * 65536 % b ≡ 0 → NearestUp b s v (scaled_word b s v)
  -- and it is whole at the ratios n/2, which are 1, 3/2 and 2;
  pub whole : (b s n : ℕ) → Sized b s → 2 * s ≡ n * b → s * 65536 % b ≡ 0
  -- up to the wide limit it differs from the first rule's by at most 1;
  pub first-rule : (b s : ℕ) (v : ℤ) → Sized b s → nat_abs v ≤ wide → nat_abs (scaled_word b s v -ℤ first_rule b s v) ≤ 1
  -- a word of −limit..limit − 1 becomes one of −2·limit..2·(limit − 1), for rule 5's limit and any other.
  pub range : (b s limit : ℕ) (v : ℤ) → Sized b s → minus limit ≤ℤ v → v ≤ℤ pos (limit - 1)
      → (minus (2 * limit) ≤ℤ scaled_word b s v) × (scaled_word b s v ≤ℤ pos (2 * (limit - 1)))

-- ---- Examples of the rounding, in one table: B, S, a word v, what the first rule made of it, what it becomes (v'), and 2·|B·v' − S·v|, which is B for a half and
-- above B where v' is not the nearest
pub record Rounding : Type 0 where
  pub base : ℕ
  pub scaled : ℕ
  pub word : ℤ
  pub before : ℤ
  pub now : ℤ
  pub twice : ℕ

abbrev rounding : ℕ → ℕ → ℤ → ℤ → ℤ → ℕ → Rounding
rounding b s v before now twice = record { base = b; scaled = s; word = v; before = before; now = now; twice = twice }

abbrev pub roundings : List Rounding
roundings =
    rounding 32 48 (pos 3) (pos 5) (pos 5) 32  -- 4.5: a half
    ∷ rounding 32 48 (minus 3) (minus 5) (minus 4) 32  -- −4.5: a half below zero goes up too, so it is not odd
    ∷ rounding 80 156 (pos 10) (pos 20) (pos 19) 80  -- 19.5: a half that goes down, since S · 65,536 / B is 127,795.2 and the scale below it
    ∷ rounding 112 130 (minus 8179) (minus 9493) (minus 9494) 116  -- −9,493.48..: not the nearest
    ∷ []

pub roundings-hold : (map (λ r. first_rule r.base r.scaled r.word) roundings ≡ map (λ r. r.before) roundings)
    × (map (λ r. scaled_word r.base r.scaled r.word) roundings ≡ map (λ r. r.now) roundings)
    × (map (λ r. 2 * error_of r.base r.scaled r.word r.now) roundings ≡ map (λ r. r.twice) roundings)
roundings-hold = (refl, refl, refl)
