-- Motions as the code hands them on: each is one of the definitions', laid out flat.
use Rattle.std.specs.Prelude.{ℕ, ◌<◌, ◌≡◌, Bool, true, ◌&&◌, List, [], ℤ, pos, get_or}
use Rattle.std.specs.Int.{Width}
use Rattle.std.proofs.Common.{SFits}
use Rattle.definitions.specs.declared.Motion.{Motion}
use Rattle.definitions.specs.Basics.{between, eq_z, four, minus}
use Rattle.motion.specs.declared.BlockMotion.{BlockMotion}
use Rattle.motion.specs.Range.{BothInRange}

abbrev pub motion_in : BlockMotion → Motion
motion_in m = record { list0 = record { reference = m.r0; x = m.x0; y = m.y0 }; list1 = record { reference = m.r1; x = m.x1; y = m.y1 } }

-- what stands beyond the four is read by no step
abbrev pub zero_block : BlockMotion
zero_block = record { r0 = pos 0; r1 = pos 0; x0 = pos 0; y0 = pos 0; x1 = pos 0; y1 = pos 0 }

-- a quadrant of four blocks, and four such quadrants
abbrev pub motions_in : List BlockMotion → List Motion
motions_in m = four (λ k. motion_in (get_or m k zero_block))

abbrev pub quadrants_in : List (List BlockMotion) → List (List Motion)
quadrants_in m = four (λ q. motions_in (get_or m q []))

-- two blocks have the same vectors, in both lists
unfoldable pub same_vectors_in : BlockMotion → BlockMotion → Bool
same_vectors_in p q = (eq_z p.x0 q.x0 && eq_z p.y0 q.y0) && (eq_z p.x1 q.x1 && eq_z p.y1 q.y1)

-- a reference as rule 3 asks it of a record; of a motion's both lists, and of the four blocks of a quadrant
abbrev pub Reference : ℤ → Type 0
Reference r = between (minus 1) (pos 31) r ≡ true

abbrev pub Referring : BlockMotion → Type 0
Referring m = Reference m.r0 × Reference m.r1

abbrev pub AllReferring : List BlockMotion → Type 0
AllReferring m = (k : ℕ) → k < 4 → Referring (get_or m k zero_block)

-- the four blocks of a quadrant have one reference in each list, as after step 2
abbrev pub OneReference : List BlockMotion → Type 0
OneReference m = (k : ℕ) → k < 4 → ((get_or m k zero_block).r0 ≡ (get_or m 0 zero_block).r0) × ((get_or m k zero_block).r1 ≡ (get_or m 0 zero_block).r1)

-- its numbers fit words of so many bits
pub record InWords (bits : Width) (m : BlockMotion) : Type 0 where
  pub r0 : SFits bits m.r0
  pub r1 : SFits bits m.r1
  pub x0 : SFits bits m.x0
  pub y0 : SFits bits m.y0
  pub x1 : SFits bits m.x1
  pub y1 : SFits bits m.y1

-- a motion, and a quadrant, that can be scaled and written into a record of the width whose limit it is
pub record Writable (limit : ℕ) (m : BlockMotion) : Type 0 where
  pub referring : Referring m
  pub vectors : BothInRange limit (motion_in m)

pub record QuadrantWritable (limit : ℕ) (m : List BlockMotion) : Type 0 where
  pub blocks : (k : ℕ) → k < 4 → Writable limit (get_or m k zero_block)
  pub one : OneReference m

abbrev pub AllWritable : ℕ → List (List BlockMotion) → Type 0
AllWritable limit m = (q : ℕ) → q < 4 → QuadrantWritable limit (get_or m q [])
