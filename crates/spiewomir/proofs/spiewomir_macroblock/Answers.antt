use mir.Facts.{to_z-of_z}
use Rattle.definitions.specs.Record.{narrow}
use Rattle.spiewomir.proofs.Demands.{macroblock-kept}
use Rattle.spiewomir.proofs.spiewomir_macroblock.Goals as goal

pub returns-clause-result : goal.returns-clause-result
returns-clause-result c = (macroblock-kept narrow c.into.ensures (to_z-of_z c.ranges.column) (to_z-of_z c.ranges.row) c.args.base.now c.args.out.now c.upsample_macroblock.ensures.reply c.upsample_macroblock.ensures.words c.upsample_macroblock.ensures.demand3 c.into-2.ensures).0

pub returns-clause-words : goal.returns-clause-words
returns-clause-words c = (macroblock-kept narrow c.into.ensures (to_z-of_z c.ranges.column) (to_z-of_z c.ranges.row) c.args.base.now c.args.out.now c.upsample_macroblock.ensures.reply c.upsample_macroblock.ensures.words c.upsample_macroblock.ensures.demand3 c.into-2.ensures).1.0

pub returns-clause-demand3 : goal.returns-clause-demand3
returns-clause-demand3 c = (macroblock-kept narrow c.into.ensures (to_z-of_z c.ranges.column) (to_z-of_z c.ranges.row) c.args.base.now c.args.out.now c.upsample_macroblock.ensures.reply c.upsample_macroblock.ensures.words c.upsample_macroblock.ensures.demand3 c.into-2.ensures).1.1
