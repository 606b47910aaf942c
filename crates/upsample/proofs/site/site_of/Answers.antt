use mathlib.Core.Path.{ap, ◌∙◌}
use Rattle.definitions.specs.declared.Axis.{Axis}
use Rattle.macroblock.specs.Made.{read_of}
use Rattle.upsample.specs.Sited.{placed}
use Rattle.upsample.proofs.Naming.{site-made}
use Rattle.upsample.proofs.site.site_of.Goals as goal

pub returns : goal.returns
returns c =
    site-made (placed c.args.p) c.fixed_of-fixed.ensures
    (c.axis_read-h.ensures ∙ ap (λ (a : Axis). read_of a c.args.p.column) c.horizontal.ensures)
    (c.axis_read-v.ensures ∙ ap (λ (a : Axis). read_of a c.args.p.row) c.vertical.ensures)
    c.is_two.ensures c.run_of-upper.ensures c.run_of-lower.ensures
