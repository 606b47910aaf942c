use mathlib.Core.List.{map}
use Rattle.rules.proofs.Parts.{motions-same}
use Rattle.rules.proofs.same_motion.Goals as goal

pub returns : goal.returns
returns g c = motions-same (map g.W.Word.value c.args.words.now) c.args.b c.args.d c.same_references-references.ensures c.same_vectors.ensures
