-- Two tests joined by and, or: what they come to once the first is known. Assumes nothing.
use mathlib.Core.Path.{◌≡◌, ap}
use mathlib.Core.Bool.{Bool, false, ◌||◌}

pub or_off : {a : Bool} (b : Bool) → a ≡ false → (a || b) ≡ b
or_off b e = ap (λ (t : Bool). t || b) e
