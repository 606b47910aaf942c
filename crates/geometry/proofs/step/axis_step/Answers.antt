use Prim.Native.Nat.{ℕ}
use mathlib.Core.Bool.{true}
use mathlib.Core.Path.{◌≡◌, ◌∙◌}
use native.Mathlib.Omega.{arith}
use Rattle.definitions.specs.Accepted.{Inside}
use Rattle.definitions.specs.Basics.{how_many}
use Rattle.definitions.specs.BlockMap.{falls_in, step_of}
use Rattle.definitions.specs.Geometry.{base_size, c_of, inside_axis, k_of, scaled_size}
use Rattle.definitions.proofs.Accepted.{inside-axis}
use Rattle.definitions.proofs.Map.{f-below}
use Rattle.geometry.specs.declared.AxisAt.{AxisAt}
use Rattle.geometry.proofs.Bounds.{distances-small}
use Rattle.geometry.proofs.Steps as steps
use Rattle.geometry.proofs.step.axis_step.Goals as goal

-- the centre that step 1 gives is inside, and k is its
middle :
    (at : AxisAt) {mid k : ℕ} → inside_axis at.axis at.start.0 ≡ true → mid ≡ c_of at.axis at.start.0
    → k ≡ k_of (base_size at.axis) (scaled_size at.axis) (c_of at.axis at.start.0)
    → Inside (base_size at.axis) (scaled_size at.axis) mid × (k ≡ k_of (base_size at.axis) (scaled_size at.axis) mid)
middle at inside c-is k-is = rw c-is (inside-axis at.axis at.start.0 at.known.accepted inside, k-is)

pub distances-unrounded-requires : goal.distances-unrounded-requires
distances-unrounded-requires c = middle c.args.at c.requires c.centre-mid.ensures.c c.centre-mid.ensures.k

pub rounded-d-requires : goal.rounded-d-requires
rounded-d-requires c =
    let inside = (middle c.args.at c.requires c.centre-mid.ensures.c c.centre-mid.ensures.k).0 in
    distances-small _ _ _ inside c.distances-unrounded.ensures.d1 c.distances-unrounded.ensures.d2

pub columns_read-columns-requires : goal.columns_read-columns-requires
columns_read-columns-requires c =
    let mid = middle c.args.at c.requires c.centre-mid.ensures.c c.centre-mid.ensures.k in
    let fours = steps.rounded-at mid.1 c.distances-unrounded.ensures.d1 c.distances-unrounded.ensures.d2 c.rounded-d.ensures.d1 c.rounded-d.ensures.d2 in
    steps.columns-asked _ _ _ mid.0 mid.1 (c.borders_by_parity-chosen.ensures.m _ _ _ fours)

pub reads-coordinates-requires : goal.reads-coordinates-requires
reads-coordinates-requires c =
    let mid = middle c.args.at c.requires c.centre-mid.ensures.c c.centre-mid.ensures.k in
    let fours = steps.rounded-at mid.1 c.distances-unrounded.ensures.d1 c.distances-unrounded.ensures.d2 c.rounded-d.ensures.d1 c.rounded-d.ensures.d2 in
    let m-is = c.borders_by_parity-chosen.ensures.m _ _ _ fours in
    let n-is = c.borders_by_parity-chosen.ensures.n _ _ _ fours in
    let f-is = c.columns_read-columns.ensures.f _ _ _ mid.1 m-is in
    let inside = mid.0 in
    (steps.row-there _ _ _ inside mid.1 m-is n-is, omega (arith, f-is, f-below _ _ _ inside, inside))

pub returns : goal.returns
unfolding step_of how_many
returns c =
    let mid = middle c.args.at c.requires c.centre-mid.ensures.c c.centre-mid.ensures.k in
    let fours = steps.rounded-at mid.1 c.distances-unrounded.ensures.d1 c.distances-unrounded.ensures.d2 c.rounded-d.ensures.d1 c.rounded-d.ensures.d2 in
    let m-is = c.borders_by_parity-chosen.ensures.m _ _ _ fours in
    let n-is = c.borders_by_parity-chosen.ensures.n _ _ _ fours in
    let f-is = c.columns_read-columns.ensures.f _ _ _ mid.1 m-is in
    let read = c.reads-coordinates.ensures ∙ steps.reads _ _ _ mid.1 m-is n-is f-is in
    rw (← c.centre-mid.ensures.c)
    (λ i. record {
      k = mid.1 i;
      border = record { 0 = m-is i };
      border8 = record { 0 = n-is i };
      first = f-is i;
      two = c.columns_read-columns.ensures.two_read _ _ _ m-is i;
      reads = read i;
      falls = (c.falls_in.ensures.0 ∙ (λ j. falls_in (read j) (f-is j))) i;
    })
