-- What of a geometry and a base the calls have judged before they read it.
use Rattle.std.specs.Prelude.{ℕ, ◌*◌, ◌≡◌, List, ℤ, length}
use Rattle.definitions.specs.declared.Axes.{Axes}
use Rattle.definitions.specs.Accepted.{AcceptedAxes}
use Rattle.definitions.specs.Raster.{base_count}
use Rattle.definitions.specs.Record.{record_words}
use Rattle.definitions.specs.Refusals.{AllFormed}

-- 1 to 5: an accepted geometry, and a base of its length
pub record BaseRight (g : Axes) (base : List ℤ) : Type 0 where
  pub axes : AcceptedAxes g
  pub base-length : length base ≡ record_words * base_count g

-- 8 besides: every record of it is well formed
pub record BaseFormed (limit : ℕ) (g : Axes) (base : List ℤ) : Type 0 where
  pub right : BaseRight g base
  pub formed : AllFormed limit g base
