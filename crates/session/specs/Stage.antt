-- Where a session stands, as the code tells it apart.
use Rattle.std.specs.Prelude.{ℕ, eqb, ltb}
use Rattle.definitions.specs.declared.Axes.{Axes}
use Rattle.definitions.specs.Basics.{pick}
use Rattle.definitions.specs.Geometry.{axes_of}
use Rattle.definitions.specs.Calls.{sum_of}
use Rattle.definitions.specs.Session.{State, fresh, begun, finished}
use Rattle.definitions.specs.Raster.{full_count, column_at, row_at}
use Rattle.session.specs.declared.Stage.{Stage}
use Rattle.session.specs.declared.Stage.TheVariants.{Nothing, Unfinished, Finished}

abbrev pub stage_of : State → Stage
stage_of fresh = Nothing
stage_of (begun n c) = pick (finished (begun n c)) Finished (Unfinished (column_at (axes_of n) (sum_of c)) (row_at (axes_of n) (sum_of c)))

-- of an accepted geometry, and a number of macroblocks made
unfoldable pub stage_in : Axes → ℕ → Stage
stage_in g made =
    pick (ltb (full_count g) made) Nothing
    (pick (eqb made (full_count g)) Finished
    (Unfinished (column_at g made) (row_at g made)))
