use native.Mathlib.Omega.{arith}
use mathlib.Core.Path.{◌≡◌, ◌∙◌}
use Rattle.definitions.specs.Answer.{answer_type}
use Rattle.definitions.proofs.Lines.{type-low, pieces-low}
use Rattle.log_picture.proofs.Growing.{mb-room}
use borrow.Author.Rules.{rules}
use Rattle.log_picture.proofs.macroblock_line.Goals as goal

pub line-requires : goal.line-requires
line-requires c =
    let type-is : c.from.result ≡ answer_type c.args.a = c.from.ensures ∙ c.answer_type.ensures in
    let t = type-low c.args.a in
    let p = pieces-low c.args.a in
    mb-room c.args.log.now.out.now c.args.log.now.at _ _ _ _ c.requires.2 (search rules) (search rules) (omega (arith, type-is)) (omega (arith, c.pieces_of.ensures))
