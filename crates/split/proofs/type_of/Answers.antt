use Rattle.split.proofs.Vectors.{type-is}
use Rattle.split.proofs.type_of.Goals as goal

pub returns : goal.returns
returns c = type-is _ _ _ _ _ _ _ _ c.same_motion.ensures c.same_motion-2.ensures c.same_motion-3.ensures c.same_motion-4.ensures
