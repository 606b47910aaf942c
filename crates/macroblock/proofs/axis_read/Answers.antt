use mathlib.Core.Path.{sym, ◌∙◌}
use Rattle.definitions.specs.BlockMap.{step_of}
use Rattle.definitions.specs.Geometry.{inside_axis}
use Rattle.macroblock.proofs.Reading.{read-inside, read-outside, step_small}
use Rattle.macroblock.proofs.axis_read.Goals as goal

pub read_in-requires : goal.read_in-requires
read_in-requires c =
    let at = c.at-at.ensures in
    step_small c.args.a.axis c.args.x c.args.a.accepted ((λ i. inside_axis (sym at.axis i) (sym at.start i).0) ∙ (sym c.is_inside.ensures ∙ c.if-is_inside.true))
    (c.axis_step.ensures ∙ (λ i. step_of (at.axis i) (at.start i).0))

pub returns-then-is_inside : goal.returns-then-is_inside
returns-then-is_inside c =
    let at = c.at-at.ensures in
    read-inside c.args.a.axis c.args.x ((λ i. inside_axis (sym at.axis i) (sym at.start i).0) ∙ (sym c.is_inside.ensures ∙ c.if-is_inside.true))
    (c.axis_step.ensures ∙ (λ i. step_of (at.axis i) (at.start i).0)) c.read_in.ensures

pub returns : goal.returns
returns c =
    let at = c.at-at.ensures in
    read-outside c.args.a.axis c.args.x ((λ i. inside_axis (sym at.axis i) (sym at.start i).0) ∙ (sym c.is_inside.ensures ∙ c.if-is_inside.false)) c.read_nowhere.ensures
