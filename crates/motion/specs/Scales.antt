-- Step 4 of "Inheriting", as document 02's E3 has it, by the scales of both axes, which are made once and handed down in two parts. (Words
-- of sixteen bits are multiplied by each; for those of 32 they are joined again.)
use Rattle.std.specs.Prelude.{ℕ, ◌+◌, ◌*◌, ◌/◌, ◌≤◌, ◌≡◌, List, ℤ, pos, ◌+ℤ◌, ◌*ℤ◌}
use Rattle.std.proofs.Math.IntN.{sub_ℕ}
use Rattle.definitions.specs.declared.Axes.{Axes}
use Rattle.definitions.specs.declared.Motion.{Motion}
use Rattle.definitions.specs.declared.Prediction.{Prediction}
use Rattle.definitions.specs.Basics.{down, four}
use Rattle.definitions.specs.Geometry.{base_size, scaled_size}
use Rattle.definitions.specs.Inheriting.{at, scale_of}
use Rattle.motion.specs.declared.Scale.{Scale}
use Rattle.motion.specs.declared.Scales.{Scales}

-- a scale in two parts, of which the second is between −32,768 and 32,767; and the number that two parts make
abbrev pub scale_in : ℕ → Scale
scale_in n = record { whole = pos ((n + 32768) / 65536); part = sub_ℕ n (65536 * ((n + 32768) / 65536)) }

abbrev pub number_of : Scale → ℤ
number_of s = s.whole *ℤ pos 65536 +ℤ s.part

abbrev pub scales_of : Axes → Scales
scales_of g = record {
  horizontal = scale_in (scale_of (base_size g.horizontal) (scaled_size g.horizontal));
  vertical = scale_in (scale_of (base_size g.vertical) (scaled_size g.vertical));
}

-- the scale of S = 2B
abbrev pub scale_most : ℕ
scale_most = 131072

-- a scale of an accepted geometry: from that of S = B to that of S = 2B
pub record AcceptedScale (s : Scale) : Type 0 where
  pub number : ℕ
  pub low : 65536 ≤ number
  pub high : number ≤ scale_most
  pub parts : s ≡ scale_in number

pub record AcceptedScales (s : Scales) : Type 0 where
  pub horizontal : AcceptedScale s.horizontal
  pub vertical : AcceptedScale s.vertical

-- a word, a list's part, a motion and the motions of a macroblock, scaled
abbrev pub scaled_with : Scale → ℤ → ℤ
scaled_with s v = down (v *ℤ number_of s +ℤ pos 32768) 65536

abbrev pub prediction_scaled : Scales → Prediction → Prediction
prediction_scaled s p = record { reference = p.reference; x = scaled_with s.horizontal p.x; y = scaled_with s.vertical p.y }

abbrev pub motion_scaled : Scales → Motion → Motion
motion_scaled s m = record { list0 = prediction_scaled s m.list0; list1 = prediction_scaled s m.list1 }

unfoldable pub all_scaled : Scales → List (List Motion) → List (List Motion)
all_scaled s m = four (λ q. four (λ k. motion_scaled s (at m q k)))
