use Rattle.grammar.proofs.WholeText.{one_by_one}
use lib.IntN.{pos}
use lib.ListN.{length, get_or}
use mir.Syntax.{w32}
use mir.Val.{to_z, of_z}
use mir.Facts.{to_z-of_z}
use mathlib.Core.Path.{◌≡◌, ◌∙◌}
use borrow.Author.Rules.{rules}
use mir.Syntax.{w16}
use Rattle.sync_read.proofs.numbers_of.Goals as goal

pub returns : goal.returns
returns c =
    let e : length c.args.v ≡ 8 = search rules in
    let q0 : to_z w32 (of_z w32 c.from.result) ≡ get_or c.args.v 0 (pos 0) = to_z-of_z {w = w32} (search rules) ∙ c.from.ensures ∙ to_z-of_z {w = w16} (search rules) in
    let q2 : to_z w32 (of_z w32 c.from-2.result) ≡ get_or c.args.v 2 (pos 0) = to_z-of_z {w = w32} (search rules) ∙ c.from-2.ensures ∙ to_z-of_z {w = w16} (search rules) in
    let q4 : to_z w32 (of_z w32 c.from-3.result) ≡ get_or c.args.v 4 (pos 0) = to_z-of_z {w = w32} (search rules) ∙ c.from-3.ensures ∙ to_z-of_z {w = w16} (search rules) in
    let q6 : to_z w32 (of_z w32 c.from-4.result) ≡ get_or c.args.v 6 (pos 0) = to_z-of_z {w = w32} (search rules) ∙ c.from-4.ensures ∙ to_z-of_z {w = w16} (search rules) in
    let q1 : to_z w32 (of_z w32 c.from-5.result) ≡ get_or c.args.v 1 (pos 0) = to_z-of_z {w = w32} (search rules) ∙ c.from-5.ensures ∙ to_z-of_z {w = w16} (search rules) in
    let q3 : to_z w32 (of_z w32 c.from-6.result) ≡ get_or c.args.v 3 (pos 0) = to_z-of_z {w = w32} (search rules) ∙ c.from-6.ensures ∙ to_z-of_z {w = w16} (search rules) in
    let q5 : to_z w32 (of_z w32 c.from-7.result) ≡ get_or c.args.v 5 (pos 0) = to_z-of_z {w = w32} (search rules) ∙ c.from-7.ensures ∙ to_z-of_z {w = w16} (search rules) in
    let q7 : to_z w32 (of_z w32 c.from-8.result) ≡ get_or c.args.v 7 (pos 0) = to_z-of_z {w = w32} (search rules) ∙ c.from-8.ensures ∙ to_z-of_z {w = w16} (search rules) in
    rw (q0, q1, q2, q3, q4, q5, q6, q7) (one_by_one c.args.v e)
