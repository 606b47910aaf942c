use Rattle.std.proofs.Common.{◌∙◌}
use Rattle.std.proofs.lemmas.List.{length-map}
use Rattle.bases.proofs.Judged.{formed-of}
use Rattle.bases.proofs.Base.judged.Goals as goal

pub invariant_of-result : goal.invariant_of-result
invariant_of-result g c = record { formed = formed-of g.W.Word.LIMIT _ c.args.self.geometry.axes _ _ _ c.args.self.geometry.accepted (length-map c.args.self.words.now g.W.Word.value ∙ c.args.self.long) c.base_count.ensures.0 c.check.ensures c.in_ok-check.was }
