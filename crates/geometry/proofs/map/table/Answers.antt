-- `geometry::map::table` meets its contract: one test over all rows of the block map, which is computed. Assumes nothing.
use mathlib.Core.Path.{refl}
use Rattle.geometry.proofs.Rows.{complete, holds_all}
use Rattle.geometry.proofs.map.table.Goals as goal

pub returns : goal.returns
unfolding holds_all
returns c = complete _ refl
