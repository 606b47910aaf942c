use Rattle.split.proofs.Vectors.{sub-type-is}
use Rattle.split.proofs.sub_type_of.Goals as goal

pub returns : goal.returns
returns c = sub-type-is c.args.m c.requires _ _ _ _ c.same_vectors.ensures c.same_vectors-2.ensures c.same_vectors-3.ensures c.same_vectors-4.ensures
